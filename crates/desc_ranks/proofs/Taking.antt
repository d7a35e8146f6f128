-- A frame taken as a descriptor page: live then, with a type count more; or it waits, and stands no lower than before.
use Rattle.std.proofs.Common.{◌≡◌, ℕ, ◌≤◌, ◌==◌, ◌&&◌, not, if◌then◌else◌, Bool, true, false, None, IsTrue, refl, arith}
use Rattle.std.proofs.lemmas.Bool.Decides.{nat_tests}
use Rattle.xp_words.specs.KindWords.{has_form, is_kind}
use Rattle.xp_words.specs.PageTypes.{type_number}
use Rattle.xp_words.specs.declared.kind.KindWord.{KindWord}
use Rattle.xp_words.specs.declared.kind.PageType.TheVariants.{Desc}
use Rattle.xp_words.specs.declared.place.Place.TheVariants.{Kind}
use Rattle.xp_words.proofs.KindLaws.{fields_back as written}
use Rattle.xp_board.specs.KindSteps.{raised_kind}
use Rattle.xp_board.specs.Readings.{kind_at}
use Rattle.step_maker.specs.Plain.{Words}
use Rattle.step_maker.specs.Twins.{Alike}
use Rattle.frame_types.specs.Plain.{IsTakenBy, set_kind, stop_by, taken_by, type_stop}
use Rattle.frame_types.specs.Standing.{standing_of}
use Rattle.frame_types.specs.declared.standing.Standing.{Standing}
use Rattle.frame_types.specs.declared.standing.Standing.TheVariants as stands
use Rattle.frame_types.specs.declared.taking.Taken.TheVariants as types
use Rattle.frame_ranks.specs.Ranks.{rank_at, rank_of}
use Rattle.frame_ranks.proofs.Facing.{Turned, alike_calm, set_turned, turned_calm}
use Rattle.frame_ranks.proofs.Standings.{live_small, rank_dead, rank_waits}

-- ---- how it stands to that type
abbrev stand_by : Bool → Bool → Bool → Bool → Bool → Standing
stand_by d s v z p = if d then stands.Dead else if not s then stands.Other else if v then (if z then stands.Busy else stands.Counted) else if p then stands.Partial else stands.Busy

-- what a standing says of the kind word
abbrev Says : KindWord → Standing → Type 0
Says k stands.Counted = (k.validated ≡ true) × (1 ≤ k.number)
Says k stands.Dead = (k.validated ≡ false) × (k.partial ≡ false)
Says k stands.Partial = (k.validated ≡ false) × (k.partial ≡ true) × ((type_number k.kind == 5) ≡ true)
Says k _ = Unit {0}

says_by : (k : KindWord) (v p l s z : Bool) → k.validated ≡ v → k.partial ≡ p → (type_number k.kind == 5) ≡ s → (k.number == 0) ≡ z → Says k (stand_by (not v && (not p && not l)) s v z p)
says_by k true p l false z a b c d = tt
says_by k true p l true true a b c d = tt
says_by k true p l true false a b c d = (a, grind (arith, nat_tests))
says_by k false true l false z a b c d = tt
says_by k false true l true z a b c d = (a, b, c)
says_by k false false true false z a b c d = tt
says_by k false false true true z a b c d = tt
says_by k false false false s z a b c d = (a, b)

says : (k : KindWord) → Says k (standing_of k Desc)
says k = says_by k k.validated k.partial k.locked (type_number k.kind == 5) (k.number == 0) refl refl refl refl

-- a partial one waits
marked : (k : KindWord) → IsTrue (is_kind k) → Says k stands.Partial → k.unflushed ≡ true
unfolding has_form
marked k is so = let a = so.0 in let b = so.1 in let c = so.2 in grind (arith, nat_tests)

dead_low : (k : KindWord) → Says k stands.Dead → (k.validated ≡ false) × (rank_of k ≤ 1)
dead_low k so = (so.0, rank_dead k so.0 so.1)

partial_low : (k : KindWord) → IsTrue (is_kind k) → Says k stands.Partial → (k.validated ≡ false) × (rank_of k ≤ 1)
partial_low k is so = (so.0, (let e = rank_waits k so.0 so.1 (marked k is so) in omega (arith, e)))

-- ---- by what is answered
module _ (m x : Words) (f : ℕ) (is : IsTrue (is_kind (kind_at m f))) where
  counted_by : (s : Standing) → Says (kind_at m f) s → stop_by f Desc (m (Kind f)) s ≡ None → IsTakenBy Desc (kind_at m f) s types.Counted → Alike x (taken_by f Desc (kind_at m f) s types.Counted m) →
      ((kind_at m f).validated ≡ true) × (1 ≤ (kind_at m f).number) × Turned m x f (raised_kind (kind_at m f))
  counted_by stands.Counted so free way alike =
      let k = kind_at m f in
      let l = raised_kind k in
      let small = live_small k is so.0 in
      (so.0, so.1, turned_calm m (set_kind f l m) x f l (set_turned f l m (written l small.0 small.1)) (alike_calm _ x alike))
  counted_by stands.Dead so free way alike = absurd cc
  counted_by stands.Partial so free way alike = absurd cc
  counted_by stands.Busy so free way alike = absurd cc
  counted_by stands.Other so free way alike = absurd cc

  pub takes_counted : type_stop f Desc (m (Kind f)) ≡ None → IsTakenBy Desc (kind_at m f) (standing_of (kind_at m f) Desc) types.Counted → Alike x (taken_by f Desc (kind_at m f) (standing_of (kind_at m f) Desc) types.Counted m) →
      ((kind_at m f).validated ≡ true) × (1 ≤ (kind_at m f).number) × Turned m x f (raised_kind (kind_at m f))
  takes_counted free way alike = counted_by (standing_of (kind_at m f) Desc) (says (kind_at m f)) free way alike

  begins_by : (s : Standing) (progress : ℕ) (own : Bool) → Says (kind_at m f) s → stop_by f Desc (m (Kind f)) s ≡ None → IsTakenBy Desc (kind_at m f) s (types.InWork progress own) → ((kind_at m f).validated ≡ false) × (rank_at m f ≤ 1)
  begins_by stands.Counted progress own so free way = absurd cc
  begins_by stands.Dead progress own so free way = dead_low (kind_at m f) so
  begins_by stands.Partial progress own so free way = partial_low (kind_at m f) is so
  begins_by stands.Busy progress own so free way = absurd cc
  begins_by stands.Other progress own so free way = absurd cc

  pub begins_low : (progress : ℕ) (own : Bool) → type_stop f Desc (m (Kind f)) ≡ None → IsTakenBy Desc (kind_at m f) (standing_of (kind_at m f) Desc) (types.InWork progress own) → ((kind_at m f).validated ≡ false) × (rank_at m f ≤ 1)
  begins_low progress own free way = begins_by (standing_of (kind_at m f) Desc) progress own (says (kind_at m f)) free way
