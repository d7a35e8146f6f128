-- What the opening words of a frame say.
use Rattle.std.proofs.Common.{◌≡◌, ℕ, false, find, is_none, Option, Some, None, refl, ◌∙◌, ap}
use Rattle.xp_words.specs.KindWords.{kind_fields}
use Rattle.xp_words.specs.RefWords.{ref_read}
use Rattle.xp_words.specs.declared.place.Place.{Place}
use Rattle.xp_words.specs.declared.place.Place.TheVariants.{Refs, Kind}
use Rattle.xp_board.specs.Readings.{kind_at, ref_count, allocated_mark, count_in, allocated_in, owner_of, free_stamp, stamp_in, is_free, is_free_in, is_dying, is_dying_in, kind_stamp}
use Rattle.xp_board.specs.Recorded.{is_page_of}
use Rattle.trace_text.specs.declared.trace.Own.{Own}
use Rattle.trace_text.specs.declared.trace.Trace.{Trace}
use Rattle.trace_text.specs.Counted.{has_frame}
use Rattle.machine_build.specs.Opening.{reference_in, untyped}
use Rattle.opening_rule.proofs.Owners.{owner_in_run}
use Rattle.opening_rule.proofs.Words.{Opens, kind_word, refs_read}

-- ---- its reference word, by the run that has it
counted_as_marked : (x : Option Own) → count_in (Some (reference_in x)) ≡ allocated_in (Some (reference_in x))
counted_as_marked None = refl
counted_as_marked (Some o) = refl

never_dying : (x : Option Own) → is_dying_in (Some (reference_in x)) ≡ false
never_dying None = refl
never_dying (Some o) = refl

no_stamp : (x : Option Own) → stamp_in (Some (reference_in x)) ≡ 0
no_stamp None = refl
no_stamp (Some o) = refl

free_without_owner : (x : Option Own) → is_free_in (Some (reference_in x)) ≡ is_none x
free_without_owner None = refl
free_without_owner (Some o) = refl

module _ (t : Trace) (m : Place → ℕ) (o : Opens t m) where
  pub count_is_mark : (f : ℕ) → ref_count (m (Refs f)) ≡ allocated_mark (m (Refs f))
  unfolding ref_count allocated_mark
  count_is_mark f = rw (refs_read t m o f) (counted_as_marked (find (has_frame f) t.owned))

  pub not_dying : (f : ℕ) → is_dying (m (Refs f)) ≡ false
  unfolding is_dying
  not_dying f = rw (refs_read t m o f) (never_dying (find (has_frame f) t.owned))

  pub stamp_zero : (f : ℕ) → free_stamp (m (Refs f)) ≡ 0
  unfolding free_stamp
  stamp_zero f = rw (refs_read t m o f) (no_stamp (find (has_frame f) t.owned))

  pub free_is_unowned : (f : ℕ) → is_free (m (Refs f)) ≡ is_none (find (has_frame f) t.owned)
  unfolding is_free
  free_is_unowned f = rw (refs_read t m o f) (free_without_owner (find (has_frame f) t.owned))

-- ---- its owner
page_in : (d : ℕ) (x : Option Own) (w : ℕ) → ref_read w ≡ Some (reference_in x) → is_page_of d w ≡ owner_in_run d x
unfolding owner_of owner_in_run
page_in d None w e = rw e refl
page_in d (Some o) w e = rw e refl

pub page_of : (t : Trace) (m : Place → ℕ) → Opens t m → (d f : ℕ) → is_page_of d (m (Refs f)) ≡ owner_in_run d (find (has_frame f) t.owned)
page_of t m o d f = page_in d (find (has_frame f) t.owned) (m (Refs f)) (refs_read t m o f)

-- ---- its kind word
zero_fields : kind_fields 0 ≡ untyped
unfolding kind_fields
zero_fields = refl

pub kind_is : (t : Trace) (m : Place → ℕ) → Opens t m → (f : ℕ) → kind_at m f ≡ untyped
kind_is t m o f = ap kind_fields (kind_word t m o f) ∙ zero_fields

pub kind_stamp_zero : (t : Trace) (m : Place → ℕ) → Opens t m → (f : ℕ) → kind_stamp (m (Kind f)) ≡ 0
unfolding kind_stamp
kind_stamp_zero t m o f = rw (kind_is t m o f) refl
