-- A kind word prints as its fields do without the stamp.
use Rattle.std.proofs.Common.{◌≡◌, ℕ, ◌^◌, ◌&&◌, nat_lt, Bool, true, false, List, Option, Some, IsTrue, refl, sym, ap, ◌∙◌, arith}
use Rattle.std.proofs.lemmas.Bool.{and_parts}
use Rattle.std.proofs.lemmas.Bool.Decides.{nat_tests}
use Rattle.xp_words.specs.KindWords.{has_form, is_kind, kind_fields, kind_read, kind_write}
use Rattle.xp_words.specs.declared.kind.KindWord.{KindWord}
use Rattle.xp_words.proofs.KindLaws.{kind_read-write, kind_write-read}
use Rattle.xp_board.proofs.KindForms.{fields_of}
use Rattle.report_text.specs.ReportOf.{form_by, form_text}
use Rattle.report_text.specs.WordTexts.{flags_text, kind_by, kind_text}
use Rattle.table_law.specs.Plain.{sober}
use Rattle.table_twins.proofs.Kinding.{unlive}
use Rattle.table_twins.proofs.Typing.{live_sober}

-- the fields of a word that is not live, without its stamp
abbrev unstamped : KindWord → KindWord
unstamped k = record k { number = 0 }

unstamped_form : (k : KindWord) → k.validated ≡ false → has_form k ≡ true → has_form (unstamped k) ≡ true
unfolding has_form
unstamped_form k live form = grind (arith, nat_tests)

unstamped_kind : (k : KindWord) → k.validated ≡ false → IsTrue (is_kind k) → IsTrue (is_kind (unstamped k))
unstamped_kind k live is =
    let a = and_parts (nat_lt k.number (2 ^ 36)) (nat_lt k.progress (2 ^ 10) && has_form k) is in
    let b = and_parts (nat_lt k.progress (2 ^ 10)) (has_form k) a.1 in
    let form = unstamped_form k live b.1 in
    rw b.0 (rw form refl)

-- ---- whatever is printed of the fields, where the stamp of a word that is not live is not
module _ (text : ℕ → Option KindWord → List ℕ) (alike : (k : KindWord) (w u : ℕ) → k.validated ≡ false → text w (Some (unstamped k)) ≡ text u (Some k)) where
  by_fields : (w : ℕ) (k : KindWord) → kind_read w ≡ Some k → (live : Bool) → k.validated ≡ live → text (kind_write (sober k)) (kind_read (kind_write (sober k))) ≡ text w (kind_read w)
  by_fields w k is true live = ap (λ x. text x (kind_read x)) (ap kind_write (live_sober k live) ∙ (kind_write-read w k is).1)
  by_fields w k is false live =
      let valid = (kind_write-read w k is).0 in
      ap (λ x. text (kind_write x) (kind_read (kind_write x))) (unlive k live)
      ∙ (ap (text (kind_write (unstamped k))) (kind_read-write (unstamped k) (unstamped_kind k live valid))
      ∙ (alike k (kind_write (unstamped k)) w live ∙ ap (text w) (sym is)))

  pub word_same : (w : ℕ) (k : KindWord) → kind_read w ≡ Some k → text (kind_write (sober (kind_fields w))) (kind_read (kind_write (sober (kind_fields w)))) ≡ text w (kind_read w)
  word_same w k is = ap (λ x. text (kind_write (sober x)) (kind_read (kind_write (sober x)))) (fields_of w k is) ∙ by_fields w k is k.validated refl

form_alike : (k : KindWord) (w u : ℕ) → k.validated ≡ false → form_by w (Some (unstamped k)) ≡ form_by u (Some k)
unfolding flags_text
form_alike k w u live = rw live refl

kind_alike : (k : KindWord) (w u : ℕ) → k.validated ≡ false → kind_by w (Some (unstamped k)) ≡ kind_by u (Some k)
unfolding flags_text
kind_alike k w u live = rw live refl

-- in the line of a frame
pub form_same : (w : ℕ) (k : KindWord) → kind_read w ≡ Some k → form_text (kind_write (sober (kind_fields w))) ≡ form_text w
unfolding form_text
form_same w k is = word_same form_by form_alike w k is

-- in a log line
pub kind_same : (w : ℕ) (k : KindWord) → kind_read w ≡ Some k → kind_text (kind_write (sober (kind_fields w))) ≡ kind_text w
unfolding kind_text
kind_same w k is = word_same kind_by kind_alike w k is
