use Rattle.bw_film.proofs.Filming.{filmed_step}
use Rattle.bw_film.proofs.camera.FilmedStepsGlobalStepGlobal.install.Goals as goal

pub returns-in-Ok-clause-follows : goal.returns-in-Ok-clause-follows
returns-in-Ok-clause-follows g c =
    let old = g.S.Steps.seen c.args.self.now.steps in
    let new = g.S.Steps.seen c.install-answer.new.self in
    rw c.film_step.ensures.steps (c.in-Ok.ensures.follows, filmed_step _ c.in-Ok.receipt old new c.in-Ok.ensures.seen c.film_step.ensures.choice c.film_step.ensures.failed c.film_step.ensures.counted c.film_step.ensures.row c.film_step.ensures.crew c.film_step.ensures.frames)
