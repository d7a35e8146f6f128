use Rattle.std.proofs.Common.{◌≡◌, ℕ, ◌<◌, false, length, ap, ◌∙◌, arith, get_or, replicate}
use Rattle.std.proofs.lemmas.List.{get_or-replicate}
use Rattle.machine_draw.proofs.Marks.{written_back, all_marked}
use Rattle.machine_draw.proofs.named.named_frames.Goals as goal

pub returns-clause-items : goal.returns-clause-items
returns-clause-items c =
    let n = c.args.image.now.machine.frames in
    let before : c.deref_mut.result.now ≡ replicate c.frames-frames.result false = c.deref_mut.ensures.value ∙ c.in_ok-named.ensures.items_if_clones_equal (λ y e. e) in
    let own : c.in_ok-named.named.len ≡ length c.mark_all.new.named = omega arith in
    let all : length c.mark_all.new.named ≡ n = omega (arith, c.in_ok-named.ensures.len) in
    let off : (k : ℕ) → k < n → get_or c.deref_mut.result.now k false ≡ false = (λ k low. ap (λ l. get_or l k false) before ∙ get_or-replicate _ k false false (omega arith)) in
    written_back _ _ _ own ∙ all_marked _ _ _ n all off (λ k low. c.mark_all.ensures k (omega arith))

pub returns-clause-len : goal.returns-clause-len
returns-clause-len c =
    let own : c.in_ok-named.named.len ≡ length c.mark_all.new.named = omega arith in
    ap length (written_back _ _ _ own) ∙ omega (arith, c.in_ok-named.ensures.len)
