-- Types on words and on the plain value that describes them.
use Rattle.std.proofs.Common.{◌≡◌, ℕ, zero, suc, ◌+◌, ◌<◌, ◌^◌, ◌==◌, ◌&&◌, ◌||◌, not, nat_lt, if◌then◌else◌, Bool, true, false, Some, None, IsTrue, refl, sym, ap, ◌∙◌, subst, arith}
use Rattle.std.proofs.lemmas.Bool.Decides.{nat_tests}
use Rattle.xp_words.specs.KindWords.{is_kind, kind_fields, kind_write}
use Rattle.xp_words.specs.Machine.{IsMachine, Machine}
use Rattle.xp_words.specs.PageTypes.{is_none, type_number}
use Rattle.xp_words.specs.declared.kind.KindWord.{KindWord}
use Rattle.xp_words.specs.declared.kind.PageType.{PageType}
use Rattle.xp_words.specs.declared.kind.PageType.TheVariants as kinds
use Rattle.xp_words.specs.declared.place.Place.TheVariants.{Kind}
use Rattle.xp_words.specs.declared.reply.Refusal.{Refusal}
use Rattle.xp_words.specs.declared.reply.Refusal.TheVariants as refusals
use Rattle.xp_words.specs.declared.reply.Stop.TheVariants.{Refused}
use Rattle.xp_words.proofs.Shared.{and_true as and_both, and_second_false as and_not, above_zero as some_number}
use Rattle.xp_board.specs.KindSteps.{begun_kind, is_stale, raised_kind}
use Rattle.xp_board.specs.Readings.{is_dead, is_type}
use Rattle.step_maker.specs.Plain.{Words}
use Rattle.step_maker.specs.Twins.{Alike}
use Rattle.kind_words.specs.Kinds.{dead_kind, live_kind, partial_kind, work_kind}
use Rattle.kind_words.proofs.KindWriting.{begun_is, dead_is, fields_write, live_is, marked_is, raised_is}
use Rattle.frame_types.specs.Plain.{IsTakenBy, is_read_first, set_kind, stop_by, taken, taken_by, type_stop, work_unmarked}
use Rattle.frame_types.specs.Standing.{is_same_type, standing_of}
use Rattle.frame_types.specs.Taking.{progress_of}
use Rattle.frame_types.specs.declared.standing.Standing.{Standing}
use Rattle.frame_types.specs.declared.standing.Standing.TheVariants as stands
use Rattle.frame_types.specs.declared.taking.Taken.{Taken}
use Rattle.frame_types.specs.declared.taking.Taken.TheVariants.{Counted, InWork, Waiting}
use Rattle.frame_types.proofs.Entering.{work_spelled as work_is}
use Rattle.partial_state.specs.Levels.{level_type}
use Rattle.partial_state.proofs.LevelFacts.{level_type-typed}
use Rattle.table_law.specs.Alone.{OtherType, PlainOutcome, fine, is_counted, meet_last, refused, take_at, take_kind}
use Rattle.table_law.specs.Plain.{Describes, Plain, reference_back, sober, with_kind}
use Rattle.table_law.specs.Release.{let_go}
use Rattle.table_law.proofs.Describing.{sober_dead, sober_kind}
use Rattle.table_twins.specs.Types.{IsOpenedPlain, IsReady, IsReadyBy, IsRefusedPlain, IsTakenPlain, IsWaitingPlain, TakesAsPlain}
use Rattle.table_twins.proofs.Kinding.{described_alike, kinded, kinded_over}

-- ---- what a standing says
pub record IsCounted (k : KindWord) (t : PageType) : Type 0 where
  pub dead : is_dead k ≡ false
  pub live : k.validated ≡ true
  pub same : is_same_type k.kind t ≡ true
  pub some : (k.number == 0) ≡ false

abbrev stand_by : Bool → Bool → Bool → Bool → Bool → Standing
stand_by d s v z p = if d then stands.Dead else if not s then stands.Other else if v then (if z then stands.Busy else stands.Counted) else if p then stands.Partial else stands.Busy

counted_by : (d s v z p : Bool) → stand_by d s v z p ≡ stands.Counted → (d ≡ false) × (v ≡ true) × (s ≡ true) × (z ≡ false)
counted_by true s v z p is = absurd cc
counted_by false false v z p is = absurd cc
counted_by false true true true p is = absurd cc
counted_by false true true false p is = (refl, refl, refl, refl)
counted_by false true false z true is = absurd cc
counted_by false true false z false is = absurd cc

dead_by : (d s v z p : Bool) → stand_by d s v z p ≡ stands.Dead → d ≡ true
dead_by true s v z p is = refl
dead_by false false v z p is = absurd cc
dead_by false true true true p is = absurd cc
dead_by false true true false p is = absurd cc
dead_by false true false z true is = absurd cc
dead_by false true false z false is = absurd cc

other_by : (d s v z p : Bool) → stand_by d s v z p ≡ stands.Other → (d ≡ false) × (s ≡ false)
other_by true s v z p is = absurd cc
other_by false false v z p is = (refl, refl)
other_by false true true true p is = absurd cc
other_by false true true false p is = absurd cc
other_by false true false z true is = absurd cc
other_by false true false z false is = absurd cc

module _ (k : KindWord) (t : PageType) where
  pub counted_says : standing_of k t ≡ stands.Counted → IsCounted k t
  counted_says is = let a = counted_by (is_dead k) (is_same_type k.kind t) k.validated (k.number == 0) k.partial is in record { dead = a.0; live = a.1; same = a.2; some = a.3 }

  pub dead_says : standing_of k t ≡ stands.Dead → is_dead k ≡ true
  dead_says is = dead_by (is_dead k) (is_same_type k.kind t) k.validated (k.number == 0) k.partial is

  pub other_says : standing_of k t ≡ stands.Other → (is_dead k ≡ false) × (is_same_type k.kind t ≡ false)
  other_says is = other_by (is_dead k) (is_same_type k.kind t) k.validated (k.number == 0) k.partial is

-- ---- the plain value by its kind word

pick : {A : Type 0} (a b : Bool) (x y z : A) → a ≡ false → b ≡ true → (if a then x else if b then y else z) ≡ y
pick a b x y z off on = ap (λ k. if k then x else if b then y else z) off ∙ ap (λ k. if k then y else z) on

pick_last : {A : Type 0} (a b : Bool) (x y z : A) → a ≡ false → b ≡ false → (if a then x else if b then y else z) ≡ z
pick_last a b x y z off out = ap (λ k. if k then x else if b then y else z) off ∙ ap (λ k. if k then y else z) out

pub pick_first : {A : Type 0} (a : Bool) (x y : A) → a ≡ true → (if a then x else y) ≡ x
pick_first a x y on = ap (λ k. if k then x else y) on

some_lt : (c : ℕ) → (c == 0) ≡ false → nat_lt 0 c ≡ true
some_lt c off = grind (arith, nat_tests)

pub live_sober : (k : KindWord) → k.validated ≡ true → sober k ≡ k
live_sober k on = ap (λ b. if b then k else record k { number = 0 }) on

module _ (n : Machine) (m : Words) (q : Plain) (g : ℕ) (d : Describes n m q) (inside : g < n.frames) (t : PageType) where
  pub counted_takes : (fill : Plain → PlainOutcome) → IsCounted (kind_fields (m (Kind g))) t → take_kind fill g t q (q.kinds g) ≡ fine (with_kind g (raised_kind (kind_fields (m (Kind g)))) q)
  counted_takes fill c =
      let k = kind_fields (m (Kind g)) in
      ap (λ (j : KindWord). take_kind fill g t q j) (d.kinds g inside ∙ live_sober k c.live) ∙ pick (is_dead k) (is_counted k && is_type k.kind t) _ _ _ c.dead (and_both (is_counted k) (is_type k.kind t) (and_both k.validated (nat_lt 0 k.number) c.live (some_lt k.number c.some)) c.same)

  pub dead_there : is_dead (q.kinds g) ≡ is_dead (kind_fields (m (Kind g)))
  dead_there = ap is_dead (d.kinds g inside) ∙ sober_dead (kind_fields (m (Kind g)))

  pub other_takes : (fill : Plain → PlainOutcome) → is_dead (kind_fields (m (Kind g))) ≡ false → is_same_type (kind_fields (m (Kind g))).kind t ≡ false →
      take_kind fill g t q (q.kinds g) ≡ refused (OtherType g t (q.kinds g)) (reference_back g q)
  other_takes fill dead other =
      let k = kind_fields (m (Kind g)) in
      pick_last (is_dead (q.kinds g)) (is_counted (q.kinds g) && is_type (q.kinds g).kind t) _ _ _ (dead_there ∙ dead)
      (and_not (is_counted (q.kinds g)) (is_type (q.kinds g).kind t) (ap (λ (j : KindWord). is_type j.kind t) (d.kinds g inside) ∙ ap (λ u. is_type u t) (sober_kind k) ∙ other))

  dead_takes : is_dead (kind_fields (m (Kind g))) ≡ true → take_kind fine g t q (q.kinds g) ≡ fine (with_kind g (live_kind t 1) (with_kind g (work_kind t false 0) q))
  dead_takes dead = pick_first (is_dead (q.kinds g)) _ _ (dead_there ∙ dead)

-- at each level
pub at_level : (n : Machine) (owner g l : ℕ) (q : Plain) (P : PlainOutcome → Type 0) → ((fill : Plain → PlainOutcome) → P (take_kind fill g (level_type l) q (q.kinds g))) → P (take_at l n owner g q)
unfolding take_at
at_level n owner g zero q P holds = holds fine
at_level n owner g (suc l) q P holds = holds (meet_last n owner (take_at l n owner) (let_go l) (level_type (suc l)) g 512)

-- ---- the words

begun_unmarked : (k : KindWord) (t : PageType) → work_unmarked (begun_kind k t) ≡ work_kind t false 0
begun_unmarked k t = by (is_stale k t)
  where
    by : (u : Bool) → work_unmarked (work_kind t u (if u then k.number else 0)) ≡ work_kind t false 0
    by true = refl
    by false = refl

pub raised_sober : (k : KindWord) (t : PageType) (limit : ℕ) → IsTrue (is_kind k) → IsCounted k t → k.number < limit → limit < 2 ^ 26 → raised_kind k ≡ sober (kind_fields (kind_write (raised_kind k)))
raised_sober k t limit is c low few =
    let below : k.number + 1 < 2 ^ 26 = omega (arith, low, few) in
    sym (ap sober (fields_write (raised_kind k) (raised_is k is c.live (some_number k.number c.some) below)) ∙ live_sober (raised_kind k) c.live)

pub live_sober_one : (t : PageType) → IsTrue (not (is_none t)) → live_kind t 1 ≡ sober (kind_fields (kind_write (live_kind t 1)))
live_sober_one t typed = sym (ap sober (fields_write (live_kind t 1) (live_is t typed 1 (omega arith))))

pub work_sober : (k : KindWord) (t : PageType) → IsTrue (not (is_none t)) → work_kind t false 0 ≡ sober (kind_fields (kind_write (work_unmarked (begun_kind k t))))
work_sober k t typed = sym (ap (λ (j : KindWord). sober (kind_fields (kind_write j))) (begun_unmarked k t) ∙ ap sober (fields_write (work_kind t false 0) (work_is t typed)))

-- in work with its mark
begun_sober : (k : KindWord) (t : PageType) → IsTrue (is_kind k) → is_dead k ≡ true → IsTrue (not (is_none t)) → is_stale k t ≡ true → work_kind t true 0 ≡ sober (kind_fields (kind_write (begun_kind k t)))
begun_sober k t is dead typed stale = sym (ap sober (fields_write (begun_kind k t) (begun_is k t is dead typed)) ∙ ap (λ u. work_kind t u 0) stale)

-- partial with its mark
pub partial_sober : (t : PageType) → IsTrue (not (is_none t)) → IsTrue (not (type_number t == 5)) → partial_kind t false true 0 0 ≡ sober (kind_fields (kind_write (partial_kind t false true 0 0)))
partial_sober t typed plain = sym (ap sober (fields_write (partial_kind t false true 0 0) (marked_is t typed false 0 (or_left (not (type_number t == 5)) false plain) (omega arith))))
  where
    or_left : (b c : Bool) → IsTrue b → IsTrue (b || c)
    or_left true c on = refl
    or_left false c on = absurd cc

-- dead with its mark
pub dead_sober : (t : PageType) → IsTrue (not (is_none t)) → dead_kind t true 0 ≡ sober (kind_fields (kind_write (dead_kind t true 0)))
dead_sober t typed = sym (ap sober (fields_write (dead_kind t true 0) (dead_is t typed true 0 (omega arith))))

not_partial : (v p b : Bool) → (not v && (not p && not b)) ≡ true → p ≡ false
not_partial true p b is = absurd cc
not_partial false true b is = absurd cc
not_partial false false b is = refl

-- ---- the type is taken
module _ (n : Machine) (m words : Words) (q : Plain) (l owner g : ℕ) (machine : IsMachine n) (d : Describes n m q) (inside : g < n.frames) (is : IsTrue (is_kind (kind_fields (m (Kind g))))) where
  counted_plain : IsCounted (kind_fields (m (Kind g))) (level_type l) → (kind_fields (m (Kind g))).number < n.limit → Alike words (set_kind g (raised_kind (kind_fields (m (Kind g)))) m) → IsTakenPlain n l owner g q words
  counted_plain c low alike =
      let k = kind_fields (m (Kind g)) in
      record {
        left = with_kind g (raised_kind k) q;
        takes = at_level n owner g l q (λ o. o ≡ fine (with_kind g (raised_kind k) q)) (λ fill. counted_takes n m q g d inside (level_type l) fill c);
        describes = described_alike n words (set_kind g (raised_kind k) m) (with_kind g (raised_kind k) q) alike (kinded n m q g (raised_kind k) (raised_kind k) d (raised_sober k (level_type l) n.limit is c low machine.few_counts));
      }

  opened_plain : (progress : ℕ) (own : Bool) → is_dead (kind_fields (m (Kind g))) ≡ true → progress ≡ progress_of (kind_fields (m (Kind g))) → own ≡ true →
      Alike words (set_kind g (work_unmarked (begun_kind (kind_fields (m (Kind g))) (level_type l))) m) → IsOpenedPlain n l g progress own q words
  opened_plain progress own dead recorded mine alike =
      let k = kind_fields (m (Kind g)) in
      record {
        dead = dead_there n m q g d inside (level_type l) ∙ dead;
        none = recorded ∙ ap (λ b. if b then k.progress else 0) (not_partial k.validated k.partial k.locked dead);
        mine = mine;
        describes = described_alike n words (set_kind g (work_unmarked (begun_kind k (level_type l))) m) (with_kind g (work_kind (level_type l) false 0) q) alike
            (kinded n m q g (work_unmarked (begun_kind k (level_type l))) (work_kind (level_type l) false 0) d (work_sober k (level_type l) (level_type-typed l)));
      }

  waiting_plain : (own : Bool) → is_dead (kind_fields (m (Kind g))) ≡ true → is_stale (kind_fields (m (Kind g))) (level_type l) ≡ true → own ≡ true → Alike words (set_kind g (begun_kind (kind_fields (m (Kind g))) (level_type l)) m) → IsWaitingPlain n l g own q words
  waiting_plain own dead stale mine alike =
      let k = kind_fields (m (Kind g)) in
      record {
        dead = dead_there n m q g d inside (level_type l) ∙ dead;
        mine = mine;
        describes = described_alike n words (set_kind g (begun_kind k (level_type l)) m) (with_kind g (work_kind (level_type l) true 0) q) alike
            (kinded n m q g (begun_kind k (level_type l)) (work_kind (level_type l) true 0) d (begun_sober k (level_type l) is dead (level_type-typed l) stale));
      }

-- ordinary memory that is dead is live at once
live_plain : (n : Machine) (m words : Words) (q : Plain) (l owner g : ℕ) → Describes n m q → g < n.frames → is_dead (kind_fields (m (Kind g))) ≡ true → is_read_first (level_type l) ≡ false → Alike words (set_kind g (live_kind (level_type l) 1) m) →
    IsTakenPlain n l owner g q words
unfolding take_at
live_plain n m words q zero owner g d inside dead plain alike =
    record {
      left = with_kind g (live_kind kinds.Writable 1) (with_kind g (work_kind kinds.Writable false 0) q);
      takes = dead_takes n m q g d inside kinds.Writable dead;
      describes = described_alike n words (set_kind g (live_kind kinds.Writable 1) m) (with_kind g (live_kind kinds.Writable 1) (with_kind g (work_kind kinds.Writable false 0) q)) alike
          (kinded_over n (set_kind g (live_kind kinds.Writable 1) m) q g (live_kind kinds.Writable 1) (work_kind kinds.Writable false 0) (kinded n m q g (live_kind kinds.Writable 1) (live_kind kinds.Writable 1) d (live_sober_one kinds.Writable refl)));
    }
live_plain n m words q (suc zero) owner g d inside dead plain alike = absurd (let k = plain in cc)
live_plain n m words q (suc (suc zero)) owner g d inside dead plain alike = absurd (let k = plain in cc)
live_plain n m words q (suc (suc (suc zero))) owner g d inside dead plain alike = absurd (let k = plain in cc)
live_plain n m words q (suc (suc (suc (suc l)))) owner g d inside dead plain alike = absurd (let k = plain in cc)

module _ (n : Machine) (m words : Words) (q : Plain) (l owner g : ℕ) (machine : IsMachine n) (d : Describes n m q) (inside : g < n.frames) (is : IsTrue (is_kind (kind_fields (m (Kind g))))) where
  by_standing : (s : Standing) (way : Taken) → standing_of (kind_fields (m (Kind g))) (level_type l) ≡ s → IsReadyBy n (kind_fields (m (Kind g))) s → stop_by g (level_type l) (m (Kind g)) s ≡ None → IsTakenBy (level_type l) (kind_fields (m (Kind g))) s way →
      Alike words (taken_by g (level_type l) (kind_fields (m (Kind g))) s way m) → TakesAsPlain n l owner g q words way
  by_standing stands.Counted way stands_so ready none by alike =
      subst (λ w. TakesAsPlain n l owner g q words w) (sym by) (counted_plain n m words q l owner g machine d inside is (counted_says (kind_fields (m (Kind g))) (level_type l) stands_so) ready alike)
  by_standing stands.Dead Counted stands_so ready none by alike = live_plain n m words q l owner g d inside (dead_says (kind_fields (m (Kind g))) (level_type l) stands_so) by alike
  by_standing stands.Dead (InWork progress own) stands_so ready none by alike =
      opened_plain n m words q l owner g machine d inside is progress own (dead_says (kind_fields (m (Kind g))) (level_type l) stands_so) by.2 by.1 alike
  by_standing stands.Dead (Waiting own stamp stop) stands_so ready none by alike =
      waiting_plain n m words q l owner g machine d inside is own (dead_says (kind_fields (m (Kind g))) (level_type l) stands_so) by.0 by.1 alike
  by_standing stands.Partial way stands_so ready none by alike = absurd ready
  by_standing stands.Busy way stands_so ready none by alike = absurd ready
  by_standing stands.Other way stands_so ready none by alike = absurd (let k = none in cc)

pub taken_plain : (n : Machine) (m words : Words) (q : Plain) (l owner g : ℕ) (way : Taken) → IsMachine n → Describes n m q → g < n.frames → IsReady n (level_type l) (m (Kind g)) → type_stop g (level_type l) (m (Kind g)) ≡ None →
    IsTakenBy (level_type l) (kind_fields (m (Kind g))) (standing_of (kind_fields (m (Kind g))) (level_type l)) way → Alike words (taken g (level_type l) way m) → TakesAsPlain n l owner g q words way
taken_plain n m words q l owner g way machine d inside ready none by alike =
    by_standing n m words q l owner g machine d inside ready.0 (standing_of (kind_fields (m (Kind g))) (level_type l)) way refl ready.1 none by alike

-- ---- or it is refused
module _ (n : Machine) (m : Words) (q : Plain) (l owner g : ℕ) (d : Describes n m q) (inside : g < n.frames) where
  refused_other : standing_of (kind_fields (m (Kind g))) (level_type l) ≡ stands.Other → IsRefusedPlain n l owner g q (refusals.OtherType g (level_type l) (m (Kind g)))
  refused_other stands_so =
      let says = other_says (kind_fields (m (Kind g))) (level_type l) stands_so in
      record {
        cause = OtherType g (level_type l) (q.kinds g);
        same = (refl, refl, sym (d.kinds g inside));
        takes = at_level n owner g l q (λ o. o ≡ refused (OtherType g (level_type l) (q.kinds g)) (reference_back g q)) (λ fill. other_takes n m q g d inside (level_type l) fill says.0 says.1);
      }

  refused_by : (s : Standing) (x : Refusal) → standing_of (kind_fields (m (Kind g))) (level_type l) ≡ s → stop_by g (level_type l) (m (Kind g)) s ≡ Some (Refused x) → IsRefusedPlain n l owner g q x
  refused_by stands.Other x stands_so stop = let e : refusals.OtherType g (level_type l) (m (Kind g)) ≡ x = cc in subst (λ y. IsRefusedPlain n l owner g q y) e (refused_other stands_so)
  refused_by stands.Counted x stands_so stop = absurd (let k = stop in cc)
  refused_by stands.Dead x stands_so stop = absurd (let k = stop in cc)
  refused_by stands.Partial x stands_so stop = absurd (let k = stop in cc)
  refused_by stands.Busy x stands_so stop = absurd (let k = stop in cc)

pub refused_plain : (n : Machine) (m : Words) (q : Plain) (l owner g : ℕ) (x : Refusal) → Describes n m q → g < n.frames → type_stop g (level_type l) (m (Kind g)) ≡ Some (Refused x) → IsRefusedPlain n l owner g q x
refused_plain n m q l owner g x d inside stop = refused_by n m q l owner g d inside (standing_of (kind_fields (m (Kind g))) (level_type l)) x refl stop
