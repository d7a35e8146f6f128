-- A frame that is asked as ordinary memory, and waits for a flush: it is left with its mark, and stands no lower than before.
use Rattle.std.proofs.Common.{◌≡◌, ◌≢◌, ◌⊎◌, ℕ, ◌<◌, ◌≤◌, ◌^◌, ◌==◌, ◌&&◌, not, if◌then◌else◌, Bool, true, false, Some, None, Ok, refl, sym, ap, ◌∙◌, subst, subst₂, inl, inr, arith}
use Rattle.std.proofs.lemmas.Bool.{cases_eq}
use Rattle.xp_words.specs.KindWords.{kind_fields}
use Rattle.xp_words.specs.Machine.{Machine}
use Rattle.xp_words.specs.declared.kind.KindWord.{KindWord}
use Rattle.xp_words.specs.declared.kind.PageType.{PageType}
use Rattle.xp_words.specs.declared.kind.PageType.TheVariants.{Writable}
use Rattle.xp_words.specs.declared.place.Place.{Place}
use Rattle.xp_words.specs.declared.place.Place.TheVariants.{Kind, Life}
use Rattle.xp_words.specs.declared.reply.Pause.{Pause}
use Rattle.xp_words.specs.declared.reply.Pause.TheVariants.{Busy}
use Rattle.xp_words.specs.declared.reply.Stop.{Stop}
use Rattle.xp_words.specs.declared.reply.Stop.TheVariants.{Paused}
use Rattle.xp_board.specs.Readings.{kind_at}
use Rattle.xp_board.specs.Told.{PortValue, is_telling, told_word}
use Rattle.step_maker.specs.Plain.{Words}
use Rattle.step_maker.specs.Twins.{Alike, IsAlikeKind}
use Rattle.frame_words.specs.Plain.{put}
use Rattle.frame_types.specs.Plain.{IsTakenBy, stop_by, taken_by, type_stop}
use Rattle.frame_types.specs.Standing.{is_same_type, standing_of}
use Rattle.frame_types.specs.declared.standing.Standing.{Standing}
use Rattle.frame_types.specs.declared.standing.Standing.TheVariants as stands
use Rattle.frame_types.specs.declared.taking.Taken.TheVariants as types
use Rattle.kind_words.specs.Kinds.{partial_kind}
use Rattle.kind_words.proofs.KindWriting.{fields_write, marked_is}
use Rattle.table_entries.specs.Acquiring.{TookType}
use Rattle.table_words.specs.OldWords.{old_place}
use Rattle.table_words.specs.declared.old_words.OldWord.{OldWord}
use Rattle.vcpu_turn.specs.Unhindered.{IsUnhindered}
use Rattle.vcpu_turn.specs.declared.cpu.TurnEnd.TheVariants as ends
use Rattle.table_twins.proofs.Typing.{dead_says}
use Rattle.acquisition_laws.proofs.Lows.{type_low}
use Rattle.frame_ranks.specs.Ranks.{GoesForward, rank_at, rank_of}
use Rattle.frame_ranks.proofs.Standings.{rank_dead, rank_waits}
use Rattle.turn_measures.proofs.Forward.{alike_counts, alike_olds, alike_ranks, is_ranked, old_ranked}
use Rattle.turn_measures.proofs.Asides.{put_still}
use Rattle.turn_measures.proofs.Storing.{Stored, set_there}

-- ---- a busy frame pauses nobody that is unhindered
never_by : (n : Machine) (f w : ℕ) (want : PageType) (s : Standing) (x : Pause) → stop_by f want w s ≡ Some (Paused x) → IsUnhindered n (ends.Paused x) → ⊥
never_by n f w want stands.Busy x is un = let e : x ≡ Busy f w = cc in subst (λ y. IsUnhindered n (ends.Paused y)) e un
never_by n f w want stands.Other x is un = cc
never_by n f w want stands.Counted x is un = cc
never_by n f w want stands.Dead x is un = cc
never_by n f w want stands.Partial x is un = cc

pub never_busy : (n : Machine) (f w : ℕ) (want : PageType) (x : Pause) → type_stop f want w ≡ Some (Paused x) → IsUnhindered n (ends.Paused x) → ⊥
never_busy n f w want x is un = never_by n f w want (standing_of (kind_fields w) want) x is un

-- ---- its word before
dead_parts : (v p l : Bool) → (not v && (not p && not l)) ≡ true → (v ≡ false) × (p ≡ false)
dead_parts true p l is = absurd cc
dead_parts false true l is = absurd cc
dead_parts false false l is = (refl, refl)

partial_by : (d s v z p : Bool) → (if d then stands.Dead else if not s then stands.Other else if v then (if z then stands.Busy else stands.Counted) else if p then stands.Partial else stands.Busy) ≡ stands.Partial → (v ≡ false) × (p ≡ true)
partial_by true s v z p is = absurd cc
partial_by false false v z p is = absurd cc
partial_by false true true true p is = absurd cc
partial_by false true true false p is = absurd cc
partial_by false true false z true is = (refl, refl)
partial_by false true false z false is = absurd cc

pub low_before : (f w : ℕ) (want : PageType) (own : Bool) (stamp : ℕ) (stop : Stop) (s : Standing) → standing_of (kind_fields w) want ≡ s → stop_by f want w s ≡ None → IsTakenBy want (kind_fields w) s (types.Waiting own stamp stop) →
    ((kind_fields w).validated ≡ false) × (rank_of (kind_fields w) ≤ 1)
low_before f w want own stamp stop stands.Dead is none way = let k = kind_fields w in let a = dead_parts k.validated k.partial k.locked (dead_says k want is) in (a.0, rank_dead k a.0 a.1)
low_before f w want own stamp stop stands.Partial is none way =
    let k = kind_fields w in
    let a = partial_by (not k.validated && (not k.partial && not k.locked)) (is_same_type k.kind want) k.validated (k.number == 0) k.partial is in
    (a.0, (let e = rank_waits k a.0 a.1 way.0 in omega (arith, e)))
low_before f w want own stamp stop stands.Counted is none way = absurd cc
low_before f w want own stamp stop stands.Busy is none way = absurd cc
low_before f w want own stamp stop stands.Other is none way = absurd cc

-- ---- all other words
kept_off : (b : Bool) (f : ℕ) (m : Words) (q : Place) → is_ranked q ≡ true → (if b then put f m else m) q ≡ m q
kept_off true f m q ranked = put_still f m q ranked
kept_off false f m q ranked = refl

pub taken_off : (f : ℕ) (want : PageType) (k : KindWord) (own : Bool) (stamp : ℕ) (stop : Stop) (s : Standing) (m : Words) (q : Place) → is_ranked q ≡ true → q ≢ Kind f → taken_by f want k s (types.Waiting own stamp stop) m q ≡ m q
taken_off f want k own stamp stop stands.Counted m q ranked off = set_there f _ m q off
taken_off f want k own stamp stop stands.Dead m q ranked off = set_there f _ m q off
taken_off f want k own stamp stop stands.Busy m q ranked off = set_there f _ m q off
taken_off f want k own stamp stop stands.Other m q ranked off = set_there f _ m q off
taken_off f want k own stamp stop stands.Partial m q ranked off = set_there f _ (if k.kept then put f m else m) q off ∙ kept_off k.kept f m q ranked

-- ---- left with its mark
module _ (v u : PortValue) (f owner stamp : ℕ) (own : Bool) (stop : Stop) (telling : is_telling v ≡ true) (type : TookType v u f owner 0 (Ok (types.Waiting own stamp stop))) where
  abbrev m : Words
  m = told_word v

  abbrev s : Standing
  s = standing_of (kind_fields (told_word v (Kind f))) Writable

  abbrev taken : Words
  taken = taken_by f Writable (kind_fields (told_word v (Kind f))) (standing_of (kind_fields (told_word v (Kind f))) Writable) (types.Waiting own stamp stop) (told_word v)

  alike : Alike (told_word u) taken
  alike = (type.plain telling).2

  low : stamp < 2 ^ 36
  low = type_low v u f owner Writable (types.Waiting own stamp stop) type.found

  before : ((kind_at m f).validated ≡ false) × (rank_at m f ≤ 1)
  before = let a = type.plain telling in low_before f (m (Kind f)) Writable own stamp stop s refl a.0 a.1

  pub life_waiting : (d : ℕ) → told_word u (Life d) ≡ told_word v (Life d)
  life_waiting d = let apart : Life d ≢ Kind f = λ e. cc in alike (Life d) ∙ taken_off f Writable (kind_fields (m (Kind f))) own stamp stop s m (Life d) refl apart

  module _ (w : PortValue) (left : Stored u w f (partial_kind Writable own true 0 stamp)) where
    behind : rank_at (told_word w) f ≡ 1
    behind = ap (λ x. rank_of (kind_fields x)) left.here ∙ ap rank_of (fields_write (partial_kind Writable own true 0 stamp) (marked_is Writable refl own stamp refl low))

    alike_off : (g : ℕ) → g ≢ f → (told_word w (Kind g) ≡ m (Kind g)) ⊎ IsAlikeKind (kind_fields (told_word w (Kind g))) (kind_fields (m (Kind g)))
    alike_off g off =
        let apart : Kind g ≢ Kind f = λ e. off cc in
        let x : told_word w (Kind g) ≡ told_word u (Kind g) = left.there (Kind g) refl apart in
        let y : taken (Kind g) ≡ m (Kind g) = taken_off f Writable (kind_fields (m (Kind f))) own stamp stop s m (Kind g) refl apart in
        subst₂ (λ a b. (a ≡ b) ⊎ IsAlikeKind (kind_fields a) (kind_fields b)) (sym x) y (alike (Kind g))

    ranks : (g : ℕ) → rank_at m g ≤ rank_at (told_word w) g
    ranks g =
        elim (cases_eq g f) [
          | inl at ↦ let a : rank_at m g ≤ 1 = subst (λ h. rank_at m h ≤ 1) (sym at) before.1 in let b : rank_at (told_word w) g ≡ 1 = subst (λ h. rank_at (told_word w) h ≡ 1) (sym at) behind in omega (arith, a, b)
          | inr off ↦ let e = alike_ranks (told_word w (Kind g)) (m (Kind g)) (alike_off g off) in omega (arith, e)
        ]

    counts : (g : ℕ) → (kind_at m g).validated ≡ true → ((kind_at (told_word w) g).validated ≡ true) × ((kind_at m g).number ≤ (kind_at (told_word w) g).number)
    counts g live =
        elim (cases_eq g f) [
          | inl at ↦ absurd (let off : (kind_at m g).validated ≡ false = subst (λ h. (kind_at m h).validated ≡ false) (sym at) before.0 in let both = sym live ∙ off in cc)
          | inr off ↦ alike_counts (told_word w (Kind g)) (m (Kind g)) (alike_off g off) live
        ]

    olds : (t : ℕ) (which : OldWord) → told_word w (old_place t which) ≡ m (old_place t which)
    olds t which =
        let apart : old_place t which ≢ Kind f = λ e. cc in
        left.there (old_place t which) (old_ranked t which) apart ∙ alike_olds taken (told_word u) t which alike
        ∙ taken_off f Writable (kind_fields (m (Kind f))) own stamp stop s m (old_place t which) (old_ranked t which) apart

    pub waits_forward : GoesForward v.post.machine (told_word v) (told_word w)
    waits_forward = record { ranks = λ g inside. ranks g; counts = λ g inside live. counts g live; olds = olds }
