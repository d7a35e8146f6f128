use Rattle.std.proofs.Common.{◌≡◌, ◌∙◌, ◌+◌, ◌-◌, ◌*◌, ◌/◌, ◌++◌, ◌∷◌, [], ℕ, List, ap, length, take, drop, take-append-drop, arith}
use Rattle.std.proofs.lemmas.List.{length-append, take_rest}
use Rattle.machine_image.specs.Image.{numbers_bytes}
use Rattle.machine_image.proofs.Bytes.{begun_is_whole}
use Rattle.machine_image.proofs.numbers.keep_more.Goals as goal

pub returns-clause-kept : goal.returns-clause-kept
returns-clause-kept c =
    let old = c.args.whole.now.items in
    let begun = c.args.rest.now.items in
    let front = c.split_at.result.0.now in
    let back = c.split_at.result.1.now in
    let x = c.spelled.result in
    let n = 8 * (length back / 8) in
    let joined : front ++ back ≡ c.args.bytes.now = rw (c.split_at.ensures.front, c.split_at.ensures.back) (take-append-drop c.min-missing.result c.args.bytes.now) in
    let long : length (begun ++ front) ≡ 8 =
    omega (arith, length-append begun front, c.split_at.ensures.front_len, c.min-missing.ensures, c.len-2.ensures, c.len-3.ensures, c.if-len-lt8.false, c.in_ok-extend_from_slice.ensures.len, c.requires.few, c.args.rest.now.ok.0) in
    begun_is_whole old _ _ begun _ front back _ x long
    (c.spelled.ensures ∙ ap (take 8) (c.deref.ensures.value ∙ c.in_ok-extend_from_slice.ensures.items))
    (c.push_reserved.ensures.items ∙ ap (λ (xs : List ℕ). xs ++ x ∷ []) c.in_ok-reserve.ensures.items)
    c.push_numbers.ensures.bytes
    (c.in_ok-extend_from_slice-2.ensures.items ∙ ap (λ (xs : List ℕ). xs ++ take (length back - n) (drop n back)) c.clear.ensures.items ∙ take_rest back n)
    ∙ ap (λ (xs : List ℕ). (numbers_bytes old ++ begun) ++ xs) joined
