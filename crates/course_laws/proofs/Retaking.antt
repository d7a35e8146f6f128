-- A partial frame is taken into work again.
use Rattle.std.proofs.Common.{◌≡◌, ℕ, ◌+◌, ◌<◌, ◌≤◌, ◌%◌, ◌/◌, ◌^◌, ◌==◌, ◌||◌, not, if◌then◌else◌, Bool, true, false, Some, None, IsTrue, refl, sym, ap, ◌∙◌, subst, arith}
use Rattle.xp_words.specs.KindWords.{kind_fields, kind_write}
use Rattle.xp_words.specs.Machine.{Machine}
use Rattle.xp_words.specs.PageTypes.{is_none, type_number}
use Rattle.xp_words.specs.declared.kind.KindWord.{KindWord}
use Rattle.xp_words.specs.declared.kind.PageType.{PageType}
use Rattle.xp_words.specs.declared.place.Place.TheVariants.{Kind}
use Rattle.xp_words.specs.declared.reply.Stop.{Stop}
use Rattle.xp_board.specs.KindSteps.{resumed_kind}
use Rattle.xp_board.specs.Readings.{kind_at}
use Rattle.step_maker.specs.Plain.{Words}
use Rattle.step_maker.specs.Twins.{Alike}
use Rattle.frame_words.specs.Plain.{put}
use Rattle.kind_words.specs.Kinds.{partial_kind, work_kind}
use Rattle.kind_words.proofs.KindWriting.{fields_write}
use Rattle.kind_words.proofs.Leaving.{number_small as small_number}
use Rattle.frame_types.specs.Plain.{IsTakenBy, is_read_first, set_kind, stop_by, taken, taken_by, type_stop, work_unmarked}
use Rattle.frame_types.specs.Standing.{standing_of}
use Rattle.frame_types.specs.Taking.{progress_of}
use Rattle.frame_types.specs.declared.standing.Standing.TheVariants as stands
use Rattle.frame_types.specs.declared.taking.Taken.TheVariants as types
use Rattle.frame_types.proofs.Entering.{work_spelled as work_is}
use Rattle.partial_state.specs.Levels.{level_type}
use Rattle.partial_state.proofs.LevelFacts.{level_type-table, level_type-typed}
use Rattle.table_law.specs.Plain.{Describes, Plain, sober, with_kind}
use Rattle.table_law.proofs.Describing.{sober_live}
use Rattle.table_twins.proofs.Kinding.{described_alike, kinded, unlive}
use Rattle.course_laws.proofs.Completing.{itself}

-- ---- a word in work, with another stamp
fields_plus : (w c : ℕ) → w % 2 ^ 36 ≡ 0 → c < 2 ^ 36 → kind_fields (w + c) ≡ record (kind_fields w) { number = c }
unfolding kind_fields
fields_plus w c none small =
    let a : (w + c) / 2 ^ 52 ≡ w / 2 ^ 52 = omega arith in
    let b : (w + c) / 2 ^ 51 % 2 ≡ w / 2 ^ 51 % 2 = omega arith in
    let d : (w + c) / 2 ^ 50 % 2 ≡ w / 2 ^ 50 % 2 = omega arith in
    let e : (w + c) / 2 ^ 49 % 2 ≡ w / 2 ^ 49 % 2 = omega arith in
    let f : (w + c) / 2 ^ 48 % 2 ≡ w / 2 ^ 48 % 2 = omega arith in
    let g : (w + c) / 2 ^ 47 % 2 ≡ w / 2 ^ 47 % 2 = omega arith in
    let h : (w + c) / 2 ^ 46 % 2 ≡ w / 2 ^ 46 % 2 = omega arith in
    let i : (w + c) / 2 ^ 36 % 2 ^ 10 ≡ w / 2 ^ 36 % 2 ^ 10 = omega arith in
    let j : (w + c) % 2 ^ 36 ≡ c = omega arith in
    rw (a, b, d, e, f, g, h, i, j) refl

write_plus : (t : PageType) (c : ℕ) → (kind_write (work_kind t false c) ≡ kind_write (work_kind t false 0) + c) × (kind_write (work_kind t false 0) % 2 ^ 36 ≡ 0)
unfolding kind_write
write_plus t c = (omega arith, omega arith)

work_read : (t : PageType) (c : ℕ) → IsTrue (not (is_none t)) → c < 2 ^ 36 → work_kind t false 0 ≡ sober (kind_fields (kind_write (work_kind t false c)))
work_read t c typed small =
    let w = write_plus t c in
    let read : kind_fields (kind_write (work_kind t false 0)) ≡ work_kind t false 0 = fields_write (work_kind t false 0) (work_is t typed) in
    sym (ap (λ y. sober (kind_fields y)) w.0 ∙ ap sober (fields_plus (kind_write (work_kind t false 0)) c w.1 small) ∙ ap (λ (k : KindWord). sober (record k { number = c })) read)

-- ---- a partial word
module _ (k : KindWord) (t : PageType) (kept : Bool) (d : ℕ) (is : sober k ≡ partial_kind t kept false d 0) where
  pub partial_live : k.validated ≡ false
  partial_live = sym (sober_live k) ∙ ap (λ (j : KindWord). j.validated) is

  whole : k ≡ partial_kind t kept k.unflushed d k.number
  whole = ap (λ (j : KindWord). record j { number = k.number; unflushed = k.unflushed }) (sym (unlive k partial_live) ∙ is)

  pub partial_stands : standing_of k t ≡ stands.Partial
  partial_stands = ap (λ (j : KindWord). standing_of j t) whole ∙ ap (λ b. if not b then stands.Other else stands.Partial) (itself (type_number t))

  pub partial_kept : k.kept ≡ kept
  partial_kept = ap (λ (j : KindWord). j.kept) whole

  pub partial_progress : progress_of k ≡ d
  partial_progress = ap progress_of whole

  resumed_by : (u : Bool) (c : ℕ) → IsTrue (not (is_none t)) → c < 2 ^ 36 → work_kind t false 0 ≡ sober (kind_fields (kind_write (work_unmarked (resumed_kind (partial_kind t kept u d c)))))
  resumed_by true c typed small = work_read t 0 typed (omega arith)
  resumed_by false c typed small = work_read t c typed small

  pub resumed_sober : IsTrue (not (is_none t)) → k.number < 2 ^ 36 → work_kind t false 0 ≡ sober (kind_fields (kind_write (work_unmarked (resumed_kind k))))
  resumed_sober typed small = resumed_by k.unflushed k.number typed small ∙ sym (ap (λ (j : KindWord). sober (kind_fields (kind_write (work_unmarked (resumed_kind j))))) whole)

-- ---- it is taken
module _ (n : Machine) (m x : Words) (q : Plain) (g l : ℕ) (kept : Bool) (d : ℕ) (describes : Describes n m q) (inside : g < n.frames) (low : 1 ≤ l) (is : q.kinds g ≡ partial_kind (level_type l) kept false d 0) where
  there : sober (kind_at m g) ≡ partial_kind (level_type l) kept false d 0
  there = sym (describes.kinds g inside) ∙ is

  standing : standing_of (kind_at m g) (level_type l) ≡ stands.Partial
  standing = partial_stands (kind_at m g) (level_type l) kept d there

  pub not_stopped : (e : Stop) → type_stop g (level_type l) (m (Kind g)) ≡ Some e → ⊥
  not_stopped e stop = let k : None ≡ Some e = sym (ap (stop_by g (level_type l) (m (Kind g))) standing) ∙ stop in cc

  first : is_read_first (level_type l) ≡ true
  first = ap (λ b. b || (type_number (level_type l) == 5)) (level_type-table l low)

  pub not_counted : IsTakenBy (level_type l) (kind_at m g) (standing_of (kind_at m g) (level_type l)) types.Counted → ⊥
  not_counted way = let off : is_read_first (level_type l) ≡ false = subst (λ s. IsTakenBy (level_type l) (kind_at m g) s types.Counted) standing way in let on = first in cc

  module _ (progress : ℕ) (own : Bool) (way : IsTakenBy (level_type l) (kind_at m g) (standing_of (kind_at m g) (level_type l)) (types.InWork progress own)) where
    taken_way : IsTakenBy (level_type l) (kind_at m g) stands.Partial (types.InWork progress own)
    taken_way = subst (λ s. IsTakenBy (level_type l) (kind_at m g) s (types.InWork progress own)) standing way

    pub own_is : own ≡ kept
    own_is = taken_way.1 ∙ partial_kept (kind_at m g) (level_type l) kept d there

    pub progress_is : progress ≡ d
    progress_is = taken_way.2 ∙ partial_progress (kind_at m g) (level_type l) kept d there

    pub retaken_words : Alike x (taken g (level_type l) (types.InWork progress own) m) → Alike x (set_kind g (work_unmarked (resumed_kind (kind_at m g))) (if kept then put g m else m))
    retaken_words alike =
        let k = kind_at m g in
        subst (λ b. Alike x (set_kind g (work_unmarked (resumed_kind k)) (if b then put g m else m))) (partial_kept k (level_type l) kept d there)
        (subst (λ s. Alike x (taken_by g (level_type l) k s (types.InWork progress own) m)) standing alike)

  -- the words and the plain value behind it, from words y in which the references are those of q
  pub retaken : (y : Words) (r : Plain) → Describes n y r → Alike x (set_kind g (work_unmarked (resumed_kind (kind_at m g))) y) → Describes n x (with_kind g (work_kind (level_type l) false 0) r)
  retaken y r d alike =
      let new = work_unmarked (resumed_kind (kind_at m g)) in
      described_alike n x (set_kind g new y) (with_kind g (work_kind (level_type l) false 0) r) alike
      (kinded n y r g new (work_kind (level_type l) false 0) d (resumed_sober (kind_at m g) (level_type l) kept _ there (level_type-typed l) (small_number (m (Kind g)))))
