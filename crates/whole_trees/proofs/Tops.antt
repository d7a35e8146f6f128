-- Pinned tables and bases are live and counted.
use Rattle.std.proofs.Common.{◌≡◌, ◌+◌, ◌<◌, ℕ, true, false, IsTrue, Some, inl, inr, refl, sym, ap, ◌∙◌, arith}
use Rattle.std.proofs.lemmas.Bool.{cases_Bool}
use Rattle.std.proofs.lemmas.Bool.Decides.{nat_tests}
use Rattle.xp_words.specs.declared.kind.KindWord.{KindWord}
use Rattle.xp_words.specs.declared.kind.PageType.{PageType}
use Rattle.xp_words.specs.declared.kind.PageType.TheVariants.{L4}
use Rattle.xp_words.specs.declared.place.Place.{Place}
use Rattle.xp_words.specs.declared.place.Place.TheVariants.{Kind, Refs, Vcpu}
use Rattle.xp_words.specs.KindWords.{has_form, kind_fields}
use Rattle.xp_words.specs.Machine.{Machine}
use Rattle.xp_words.specs.PageTypes.{is_table}
use Rattle.xp_words.specs.Places.{is_place, sizes_of}
use Rattle.xp_board.specs.declared.holdings.Holdings.{Holdings}
use Rattle.xp_board.specs.Readings.{domain_of, kind_at, owner_of}
use Rattle.xp_board.specs.Sound.{Sound, Spelled}
use Rattle.xp_board.specs.Spelling.{IsSpelling}
use Rattle.xp_board.proofs.KindForms.{spelled_form}
use Rattle.xp_board.proofs.LiveTables.{base_table}
use Rattle.whole_trees.specs.Whole.{AllWhole, IsWholeTree, LeadsDown}
use Rattle.whole_trees.proofs.Below.{is_whole}

record IsPinnedTable (k : KindWord) : Type 0 where
  live : k.validated ≡ true
  table : is_table k.kind ≡ true
  counted : 0 < k.number

pinned_form : (k : KindWord) → has_form k ≡ true → k.pinned ≡ true → IsPinnedTable k
unfolding has_form
pinned_form k form on = record { live = grind (arith, nat_tests); table = grind (arith, nat_tests); counted = grind (arith, nat_tests) }

zero_unpinned : (kind_fields 0).pinned ≡ false
unfolding kind_fields
zero_unpinned = refl

pinned_table : (n : Machine) (m : Place → ℕ) (f : ℕ) → Spelled n m → (kind_at m f).pinned ≡ true → IsPinnedTable (kind_at m f)
unfolding IsSpelling
pinned_table n m f spelled on =
    elim (cases_Bool (is_place (sizes_of n) (Kind f))) [
      | inl there ↦ pinned_form (kind_at m f) (spelled_form n (m (Kind f)) (spelled.spelled (Kind f) there)) on
      | inr out ↦ absurd (let off : (kind_at m f).pinned ≡ false = ap (λ w. (kind_fields w).pinned) (spelled.outside (Kind f) out) ∙ zero_unpinned in cc)
    ]

module _ (n : Machine) (m : Place → ℕ) (h : ℕ → Holdings) (sound : Sound n m h) where
  pub pinned_whole : (f : ℕ) → IsTrue (kind_at m f).pinned → IsTrue (is_table (kind_at m f).kind) × IsWholeTree n m f (kind_at m f).kind
  pinned_whole f on =
      let is = pinned_table n m f sound.spelled on in
      (is.table, is_whole n m h sound f (kind_at m f).kind (record { live = is.live; kind = refl; counted = is.counted }))

  base_whole : (v k f : ℕ) → v < (sizes_of n).vcpus → k < 2 → m (Vcpu v k) ≡ f + 1 → (owner_of (m (Refs f)) ≡ Some (domain_of n v)) × IsWholeTree n m f L4
  base_whole v k f real base names =
      let top = base_table n m h sound v k f real base names in
      (top.owner, is_whole n m h sound f L4 (record { live = top.live; kind = top.kind; counted = top.counted }))

  pub all_whole : AllWhole n m
  all_whole = record { pinned = pinned_whole; bases = base_whole }

pub one_type : (n : Machine) (m : Place → ℕ) (f g x : ℕ) (t u v w : PageType) → IsWholeTree n m f t → IsWholeTree n m g u → LeadsDown m f t x v → LeadsDown m g u x w → v ≡ w
one_type n m f g x t u v w first second a b = sym (first.live x v a).kind ∙ (second.live x w b).kind
