-- Hexadecimal digits, the last one apart.
use Rattle.std.proofs.Common.{◌≡◌, ℕ, zero, suc, ◌/◌, ◌%◌, ◌^◌, ◌<◌, ◌≤◌, Bool, true, false, cond, eqb, List, [], ◌∷◌, ◌++◌, refl, sym, ap, ◌∙◌, append_assoc, arith}
use Rattle.std.specs.Fmt.{digit_glyph, digits_onto, digits}
use Rattle.std.proofs.lemmas.Bool.{ne_eqb}

abbrev spell : ℕ → ℕ → List ℕ → List ℕ
spell k n acc = digits_onto k 16 false n acc

abbrev last_glyph : ℕ → ℕ
last_glyph n = digit_glyph false (n % 16)

append_by : (b : Bool) (c : ℕ) (acc first more : List ℕ) → more ≡ first ++ acc → cond b (c ∷ acc) more ≡ cond b (c ∷ []) first ++ acc
append_by true c acc first more e = refl
append_by false c acc first more e = e

spell-append : (k n : ℕ) (acc : List ℕ) → spell k n acc ≡ spell k n [] ++ acc
spell-append zero n acc = refl
spell-append (suc k) n acc =
    let c = last_glyph n in
    let more : spell k (n / 16) (c ∷ acc) ≡ spell k (n / 16) (c ∷ []) ++ acc = spell-append k (n / 16) (c ∷ acc) ∙ sym (append_assoc (spell k (n / 16) []) (c ∷ []) acc) ∙ ap (λ x. x ++ acc) (sym (spell-append k (n / 16) (c ∷ []))) in
    append_by (eqb (n / 16) 0) c acc _ _ more

-- room for one digit more changes nothing where there is room enough
spell_enough : (k n : ℕ) (acc : List ℕ) → n < 16 ^ suc k → spell (suc k) n acc ≡ spell (suc (suc k)) n acc
spell_enough zero n acc small = let last : n / 16 ≡ 0 = omega (arith, small) in rw last refl
spell_enough (suc k) n acc small = ap (cond (eqb (n / 16) 0) (last_glyph n ∷ acc)) (spell_enough k (n / 16) (last_glyph n ∷ acc) (omega (arith, small)))

pub hex_more : (n : ℕ) → 16 ≤ n → n < 2 ^ 64 → digits 16 false n ≡ digits 16 false (n / 16) ++ digit_glyph false (n % 16) ∷ []
unfolding digits
hex_more n big small =
    let more : eqb (n / 16) 0 ≡ false = ne_eqb (n / 16) 0 (λ e. omega (arith, big, e)) in
    ap (λ (b : Bool). cond b (last_glyph n ∷ []) (spell 63 (n / 16) (last_glyph n ∷ []))) more ∙ spell_enough 62 (n / 16) (last_glyph n ∷ []) (omega (arith, small)) ∙ spell-append 64 (n / 16) (last_glyph n ∷ [])
