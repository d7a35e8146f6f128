use Rattle.std.proofs.Common.{◌∙◌, ◌++◌, ℕ, List, ap}
use Rattle.machine_image.specs.Image.{numbers_bytes}
use Rattle.machine_image.proofs.write.write_image.Goals as goal

pub returns : goal.returns
returns c = c.in_ok-put_words.ensures ∙ ap (λ (xs : List ℕ). xs ++ numbers_bytes c.args.words.now) c.in_ok-reserve.ensures.items ∙ c.in_ok-out.ensures c.args.words.now c.len-count.ensures
