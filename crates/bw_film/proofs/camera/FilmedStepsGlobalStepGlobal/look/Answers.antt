use Rattle.bw_film.proofs.Filming.{filmed_looked}
use Rattle.bw_film.proofs.camera.FilmedStepsGlobalStepGlobal.look.Goals as goal

pub returns-clause-follows : goal.returns-clause-follows
returns-clause-follows g c = (c.look.ensures.follows, filmed_looked c.args.self.now.film c.args.self.now.has_failed c.args.keep c.args.key c.look.result _ _ c.look.ensures.seen)
