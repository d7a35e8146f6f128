-- Words that are alike, after a type is given back.
use Rattle.std.proofs.Common.{◌≡◌, ◌⊎◌, ℕ, ◌^◌, ◌<◌, ◌==◌, if◌then◌else◌, Bool, true, false, IsTrue, refl, sym, ap, ◌∙◌, subst, arith, inl, inr}
use Rattle.std.proofs.lemmas.Bool.Decides.{nat_tests}
use Rattle.xp_words.specs.KindWords.{is_kind, kind_fields, kind_write, has_form}
use Rattle.xp_words.specs.declared.kind.KindWord.{KindWord}
use Rattle.xp_words.specs.declared.kind.PageType.{PageType}
use Rattle.xp_words.specs.declared.place.Place.TheVariants.{Clock, Kind, Refs}
use Rattle.xp_board.specs.declared.step.Act.TheVariants.{Add}
use Rattle.xp_board.specs.Readings.{is_free}
use Rattle.xp_board.specs.RefSteps.{one_down}
use Rattle.step_maker.specs.Plain.{Words, change}
use Rattle.step_maker.specs.Twins.{Alike, IsAlikeKind}
use Rattle.frame_words.specs.Plain.{put, stamp_now}
use Rattle.frame_words.proofs.Alike.{alike_act, alike_stores, put_alike, stamp_low}
use Rattle.kind_words.specs.Kinds.{dead_kind}
use Rattle.kind_words.proofs.KindWriting.{fields_write}
use Rattle.frame_types.specs.Plain.{dropped_plain, set_kind}

same_kind : (x y : ℕ) → (kind_fields x).validated ≡ true → (x ≡ y) ⊎ IsAlikeKind (kind_fields x) (kind_fields y) → x ≡ y
same_kind x y live (inl e) = e
same_kind x y live (inr e) = absurd (let k = sym live ∙ e.0 in cc)

dead_spelled : (t : PageType) (stamp : ℕ) → stamp < 2 ^ 36 → IsTrue (is_kind (dead_kind t false stamp))
unfolding has_form
dead_spelled t stamp low = grind (arith, nat_tests)

-- two words of a dead frame, but for the stamp
pub dead_alike : (t : PageType) (x y : ℕ) → x < 2 ^ 36 → y < 2 ^ 36 → IsAlikeKind (kind_fields (kind_write (dead_kind t false x))) (kind_fields (kind_write (dead_kind t false y)))
dead_alike t x y low less = rw (fields_write (dead_kind t false x) (dead_spelled t x low), fields_write (dead_kind t false y) (dead_spelled t y less)) (refl, refl)

left_by_number : (b : Bool) (f : ℕ) (t : PageType) (m n : Words) (x y : ℕ) → x < 2 ^ 36 → y < 2 ^ 36 → Alike m n → Alike (if b then set_kind f (dead_kind t false x) m else m) (if b then set_kind f (dead_kind t false y) n else n)
left_by_number true f t m n x y low less all = alike_stores (Kind f) (kind_write (dead_kind t false x)) (kind_write (dead_kind t false y)) m n (inr (dead_alike t x y low less)) all
left_by_number false f t m n x y low less all = all

refs_kept : (b : Bool) (f : ℕ) (k : KindWord) (m : Words) → (if b then set_kind f k m else m) (Refs f) ≡ m (Refs f)
refs_kept true f k m = refl
refs_kept false f k m = refl

-- of a frame that stood live and was not free
pub dropped_alike : (f : ℕ) (t : PageType) (m n : Words) → is_free (m (Refs f)) ≡ false → (kind_fields (m (Kind f))).validated ≡ true → Alike m n → Alike (dropped_plain f t m) (dropped_plain f t n)
dropped_alike f t m n owned live all =
    let same = same_kind (m (Kind f)) (n (Kind f)) live (all (Kind f)) in
    let less = alike_act (Add one_down) (Kind f) m n same all in
    let number = (kind_fields (m (Kind f))).number == 1 in
    subst (λ y. Alike (dropped_plain f t m) (put f (if (kind_fields y).number == 1 then set_kind f (dead_kind t false (stamp_now n)) (change (Add one_down) (Kind f) n) else change (Add one_down) (Kind f) n))) same
    (put_alike f _ _ (ap is_free (refs_kept number f (dead_kind t false (stamp_now m)) (change (Add one_down) (Kind f) m)) ∙ owned)
    (left_by_number number f t _ _ (stamp_now m) (stamp_now n) (stamp_low (m Clock)) (stamp_low (n Clock)) less))
