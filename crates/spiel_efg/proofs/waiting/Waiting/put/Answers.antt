use Rattle.std.proofs.Common.{◌∙◌, ◌++◌, ap, replicate}
use Rattle.spiel_efg.proofs.Forests.{put_is}
use Rattle.spiel_efg.proofs.waiting.Waiting.put.Goals as goal

pub returns : goal.returns
returns g c = rw (c.resize.ensures.items, c.in_ok-resize.was)
    (put_is c.self.inside.items.items c.args.value (c.as_slice-len.result.now) c.args.count _ c.as_slice-len.ensures.value c.as_slice-len.ensures.len ∙ ap (λ xs. replicate c.args.count c.args.value ++ xs) c.self.view_is)
