use Rattle.std.proofs.Common.{◌∙◌, ◌++◌, ℕ, List, ap, codes, refl}
use Rattle.machine_image.proofs.Bytes.{put_in_order}
use Rattle.machine_image.proofs.write.front.Goals as goal

pub returns : goal.returns
returns c = λ words count.
    put_in_order c.args.layout.now words _ _ _ _ _ (c.from.ensures ∙ count) (c.in_ok-extend_from_slice.ensures.items ∙ ap (λ (xs : List ℕ). xs ++ codes "XPVIMG01") c.in_ok-out.ensures.items) c.in_ok-put_machine.ensures c.in_ok-put_number.ensures refl
