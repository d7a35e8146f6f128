-- Words of which one kind word was changed, and words that are alike.
use Rattle.std.proofs.Common.{◌≡◌, ◌⊎◌, ℕ, ◌==◌, if◌then◌else◌, Bool, true, false, Option, Some, None, refl, sym, ap, ◌∙◌, inl, inr}
use Rattle.xp_words.specs.KindWords.{kind_fields, kind_write}
use Rattle.xp_words.specs.Machine.{Machine}
use Rattle.xp_words.specs.RefWords.{ref_read}
use Rattle.xp_words.specs.declared.kind.KindWord.{KindWord}
use Rattle.xp_words.specs.declared.refs.RefWord.{RefWord}
use Rattle.xp_words.specs.declared.refs.RefWord.TheVariants.{Free, Owned, Dying}
use Rattle.xp_words.specs.declared.place.Place.TheVariants.{Cell, Kind, Refs}
use Rattle.xp_board.specs.Acts.{left_by}
use Rattle.xp_board.specs.Readings.{is_free, is_free_in}
use Rattle.step_maker.specs.Plain.{Words}
use Rattle.step_maker.specs.Twins.{Alike, IsAlikeKind, IsAlikeRef}
use Rattle.frame_types.specs.Plain.{set_kind}
use Rattle.table_law.specs.Plain.{Describes, Plain, share_in, share_of, sober, with_kind}
use Rattle.table_twins.proofs.Sharing.{either}

-- ---- another kind word
pub kinded : (n : Machine) (m : Words) (p : Plain) (g : ℕ) (new k : KindWord) → Describes n m p → k ≡ sober (kind_fields (kind_write new)) → Describes n (set_kind g new m) (with_kind g k p)
unfolding left_by
kinded n m p g new k d is =
    record {
      shares = λ h inside. d.shares h inside;
      kinds = λ h inside. either (λ w. sober (kind_fields w)) (h == g) k (p.kinds h) (kind_write new) (m (Kind h)) is (d.kinds h inside);
      cells = λ h i inside few. d.cells h i inside few;
    }

-- the newer of two
pub kinded_over : (n : Machine) (m : Words) (p : Plain) (g : ℕ) (k l : KindWord) → Describes n m (with_kind g k p) → Describes n m (with_kind g k (with_kind g l p))
kinded_over n m p g k l d = record { shares = d.shares; kinds = λ h inside. over (h == g) (p.kinds h) ∙ d.kinds h inside; cells = d.cells }
  where
    over : (b : Bool) (old : KindWord) → (if b then k else (if b then l else old)) ≡ (if b then k else old)
    over true old = refl
    over false old = refl

-- ---- words that are alike
free_share : (r : Option RefWord) (w : ℕ) → ref_read w ≡ r → is_free w ≡ true → share_in r ≡ None
unfolding is_free
free_share (Some (Owned o a c)) w e free = absurd (let k = sym (ap (λ x. is_free_in x) e) ∙ free in cc)
free_share (Some (Free stamp)) w e free = refl
free_share (Some (Dying o)) w e free = refl
free_share None w e free = refl

pub same_share : (x y : ℕ) → IsAlikeRef x y → share_of y ≡ share_of x
same_share x y (inl e) = sym (ap share_of e)
same_share x y (inr e) = free_share (ref_read y) y refl e.1 ∙ sym (free_share (ref_read x) x refl e.0)

pub unlive : (k : KindWord) → k.validated ≡ false → sober k ≡ record k { number = 0 }
unlive k off = ap (λ b. if b then k else record k { number = 0 }) off

sober_alike : (k l : KindWord) → IsAlikeKind k l → sober l ≡ sober k
sober_alike k l a =
    unlive l (ap (λ (j : KindWord). j.validated) a.1 ∙ a.0) ∙ ap (λ (j : KindWord). record j { number = 0 }) a.1 ∙ sym (unlive k a.0)

pub same_sober : (x y : ℕ) → (x ≡ y) ⊎ IsAlikeKind (kind_fields x) (kind_fields y) → sober (kind_fields y) ≡ sober (kind_fields x)
same_sober x y (inl e) = sym (ap (λ w. sober (kind_fields w)) e)
same_sober x y (inr a) = sober_alike (kind_fields x) (kind_fields y) a

pub described_alike : (n : Machine) (l m : Words) (p : Plain) → Alike l m → Describes n m p → Describes n l p
described_alike n l m p all d =
    record {
      shares = λ h inside. d.shares h inside ∙ same_share (l (Refs h)) (m (Refs h)) (all (Refs h));
      kinds = λ h inside. d.kinds h inside ∙ same_sober (l (Kind h)) (m (Kind h)) (all (Kind h));
      cells = λ h i inside few. d.cells h i inside few ∙ sym (all (Cell h i));
    }
