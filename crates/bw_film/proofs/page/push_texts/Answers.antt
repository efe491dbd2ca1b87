use Rattle.bw_film.proofs.Pages.{texts}
use Rattle.bw_film.proofs.page.push_texts.Goals as goal

pub returns : goal.returns
returns c = texts c.args.frame.now c.args.page.now.items c.push_attribute.new.page.items c.push_attribute-2.new.page.items c.push_attribute-3.new.page.items c.push_attribute-4.new.page.items c.deref.result.now c.deref-2.result.now c.deref-3.result.now
    c.deref.ensures c.deref-2.ensures c.deref-3.ensures c.in_ok-push_attribute.ensures c.in_ok-push_attribute-2.ensures c.in_ok-push_attribute-3.ensures c.in_ok-push_attribute-4.ensures
