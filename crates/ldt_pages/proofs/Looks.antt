-- Looks at own words of the LDT.
use Rattle.std.proofs.Common.{◌≡◌, ℕ, true, false, is_some, None, IsTrue, sym, ap, ◌∙◌, subst, lit<}
use Rattle.xp_words.specs.ContextWords.{ldt_read}
use Rattle.xp_words.specs.Machine.{Machine}
use Rattle.xp_words.specs.Places.{sizes_of}
use Rattle.xp_words.specs.declared.place.Place.TheVariants.{Vcpu}
use Rattle.xp_board.specs.declared.holdings.Holdings.{Holdings}
use Rattle.xp_board.specs.Spelling.{IsSpelling}
use Rattle.xp_board.specs.Told.{Finds}
use Rattle.xp_board.proofs.Numbers.{vcpu_there}

-- each word that is found there says where an LDT is
spelled_base : (n : Machine) (s w : ℕ) → IsSpelling n (Vcpu s 7) w → IsTrue (is_some (ldt_read w))
unfolding IsSpelling
spelled_base n s w e = e.1

pub base_reads : (n : Machine) (s w : ℕ) (h : Holdings) → Finds n s h (Vcpu s 7) w → ldt_read w ≡ None → ⊥
base_reads n s w h f none =
    let is = spelled_base n s w (subst (λ x. IsSpelling n (Vcpu s 7) x) f.word (f.sound.spelled.spelled (Vcpu s 7) (vcpu_there (sizes_of n) s 7 f.real (lit< tt)))) in
    let on : false ≡ true = ap (λ o. is_some o) (sym none) ∙ is in
    cc
