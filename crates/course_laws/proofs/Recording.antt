-- The next entry of a table is recorded: what that is on the plain value without the references that are lent.
use Rattle.std.proofs.Common.{◌≡◌, ◌⊎◌, ℕ, zero, suc, ◌+◌, ◌<◌, ◌==◌, ◌&&◌, not, if◌then◌else◌, Bool, true, false, List, [], ◌∷◌, Option, Some, None, Ok, refl, sym, ap, ◌∙◌, subst, inl, inr, arith}
use Rattle.std.proofs.lemmas.Bool.Decides.{nat_tests}
use Rattle.xp_words.specs.Machine.{IsMachine, Machine}
use Rattle.xp_words.specs.declared.entry.Demand.{Demand}
use Rattle.xp_words.specs.declared.entry.Demand.TheVariants as demands
use Rattle.xp_words.specs.declared.kind.KindWord.{KindWord}
use Rattle.xp_words.specs.declared.kind.PageType.{PageType}
use Rattle.xp_words.specs.declared.place.Place.TheVariants.{Kind, Refs}
use Rattle.xp_words.specs.declared.reply.Refusal.{Refusal}
use Rattle.xp_board.specs.KindSteps.{begun_kind, raised_kind}
use Rattle.xp_board.specs.Readings.{is_dead, is_type, kind_at}
use Rattle.xp_board.specs.Told.{PortValue, told_word}
use Rattle.step_maker.specs.Plain.{Leaves, Words}
use Rattle.step_maker.specs.Twins.{Alike}
use Rattle.step_maker.proofs.Alikes.{same_alike}
use Rattle.frame_words.specs.Plain.{got, refer}
use Rattle.kind_words.specs.Kinds.{live_kind, work_kind}
use Rattle.kind_words.proofs.KindWriting.{live_is, raised_is}
use Rattle.frame_types.specs.Plain.{IsTakenBy, is_read_first, taken, taken_by, type_stop, work_unmarked}
use Rattle.frame_types.specs.declared.taking.Taken.TheVariants as types
use Rattle.partial_state.specs.Levels.{level_type}
use Rattle.partial_state.proofs.LevelFacts.{level_type-typed}
use Rattle.partial_state.specs.declared.stack.TableWork.{TableWork}
use Rattle.table_entries.specs.Plain.{EntersPlainly, IsTakenOf, RefersPlainly, TypedPlainly}
use Rattle.table_entries.specs.declared.entries.Entered.TheVariants.{Recorded}
use Rattle.table_law.specs.Alone.{OtherType, PlainOutcome, fine, is_counted, refused, meet, take_at, then_by}
use Rattle.table_law.specs.Lawful.{share_count}
use Rattle.table_law.specs.Plain.{Describes, Plain, Share, raised_share, reference_back, with_kind, with_share}
use Rattle.table_law.proofs.Counting.{at_here, at_there}
use Rattle.table_twins.specs.Types.{IsOpenedPlain, IsReady, IsTakenPlain}
use Rattle.table_twins.proofs.Kinding.{described_alike}
use Rattle.table_twins.proofs.Typing.{at_level, taken_plain}
use Rattle.course_laws.proofs.Frames.{IsAbove, IsLiveWithin, count_at, dead_stands, frame_ready, live_stands, no_other, work_other}
use Rattle.course_laws.proofs.Extras.{Both, both_there, got_both, lent, more_of}
use Rattle.course_laws.proofs.Under.{Grew, IsGrown, IsIn, IsKindBut, IsStill, PlainFrames, PlainTables, Spelled, count_of, dead_there, frame_there, frames_but, grown_count, in_work, live_there, spelled_other, spelled_same, spelled_set, still_more, still_off, tables_but}

-- the frame of which it asks a type is live
abbrev pub IsSettled : Machine → Plain → Demand → Type 0
IsSettled n q (demands.Typed g t) = (g < n.frames) × ((q.kinds g).validated ≡ true)
IsSettled n q _ = Unit {0}

-- ---- a type is taken on two plain values with the same kinds
memory_takes : (n : Machine) (owner g l : ℕ) (q : Plain) → is_read_first (level_type l) ≡ false → is_dead (q.kinds g) ≡ true → take_at l n owner g q ≡ fine (with_kind g (live_kind (level_type l) 1) (with_kind g (work_kind (level_type l) false 0) q))
unfolding take_at
memory_takes n owner g zero q first dead = rw dead refl
memory_takes n owner g (suc zero) q first dead = absurd (let k = first in cc)
memory_takes n owner g (suc (suc zero)) q first dead = absurd (let k = first in cc)
memory_takes n owner g (suc (suc (suc zero))) q first dead = absurd (let k = first in cc)
memory_takes n owner g (suc (suc (suc (suc l)))) q first dead = absurd (let k = first in cc)

counted_by : (b : Bool) (x : Plain) (o : PlainOutcome) (left : Plain) → (o.refusal ≡ None → ⊥) → (if b then fine x else o) ≡ fine left → (b ≡ true) × (left ≡ x)
counted_by true x o left off is = (refl, sym (ap (λ (r : PlainOutcome). r.left) is))
counted_by false x o left off is = absurd (off (ap (λ (r : PlainOutcome). r.refusal) is))

module _ (n : Machine) (owner g l : ℕ) (q : Plain) (off : is_dead (q.kinds g) ≡ false) where
  abbrev is_counted_as : Bool
  is_counted_as = is_counted (q.kinds g) && is_type (q.kinds g).kind (level_type l)

  live_takes : (left : Plain) → take_at l n owner g q ≡ fine left → (is_counted_as ≡ true) × (left ≡ with_kind g (raised_kind (q.kinds g)) q)
  live_takes left = at_level n owner g l q (λ o. o ≡ fine left → ((is_counted (q.kinds g) && is_type (q.kinds g).kind (level_type l)) ≡ true) × (left ≡ with_kind g (raised_kind (q.kinds g)) q))
      (λ fill is. counted_by (is_counted (q.kinds g) && is_type (q.kinds g).kind (level_type l)) (with_kind g (raised_kind (q.kinds g)) q) (refused (OtherType g (level_type l) (q.kinds g)) (reference_back g q)) left (λ e. cc) (rw off at is))

  takes_live : is_counted_as ≡ true → take_at l n owner g q ≡ fine (with_kind g (raised_kind (q.kinds g)) q)
  takes_live counted = at_level n owner g l q (λ o. o ≡ fine (with_kind g (raised_kind (q.kinds g)) q)) (λ fill. rw (off, counted) refl)

pub work_out : (t : PageType) → (is_dead (work_kind t false 0) ≡ true) ⊎ ((work_kind t false 0).validated ≡ true) → ⊥
work_out t (inl dead) = cc
work_out t (inr live) = cc

-- ---- one entry
module _ (n : Machine) (m : Words) (w : PortValue) (x : ℕ → ℕ) (p : Plain) (owner l f i : ℕ) (ts : List TableWork) (machine : IsMachine n) (d : Describes n m (lent x p)) (spells : Spelled n m p) (above : IsAbove l ts) (all : PlainFrames n p ts) (works : PlainTables n owner p ts) where
  -- what the value without these references is then
  pub record Met (e : Demand) : Type 0 where
    pub after : Plain
    pub meets : meet n owner (take_at l n owner) f i p e ≡ fine after
    pub describes : Describes n (told_word w) (lent x after)
    pub spelled : Spelled n (told_word w) after
    pub cells : (g j : ℕ) → after.cells g j ≡ p.cells g j
    pub frames : PlainFrames n after ts
    pub tables : PlainTables n owner after ts
    pub settled : IsSettled n after e

  raised_by : (g : ℕ) (s : Share) (b : Bool) (h : ℕ) (r : Share) → p.shares g ≡ Some s → (h == g) ≡ b → p.shares h ≡ Some r → Grew r ((with_share g (raised_share s) p).shares h)
  raised_by g s true h r was is here =
      let e : h ≡ g = grind (arith, nat_tests) in
      let same : Some s ≡ Some r = sym was ∙ (sym (ap p.shares e) ∙ here) in
      record { share = raised_share s; is = ap (λ b. if b then Some (raised_share s) else p.shares h) is; owner = cc; more = (let k : s.count ≡ r.count = cc in omega arith) }
  raised_by g s false h r was is here = record { share = r; is = ap (λ b. if b then Some (raised_share s) else p.shares h) is ∙ here; owner = refl; more = omega arith }

  pub raised_grown : (g : ℕ) (s : Share) → p.shares g ≡ Some s → IsGrown p (with_share g (raised_share s) p)
  raised_grown g s was h r here = raised_by g s (h == g) h r was refl here

  met_same : (e : Demand) → meet n owner (take_at l n owner) f i p e ≡ fine p → IsSettled n p e → Leaves w m → Met e
  met_same e meets settled leaves =
      let alike = same_alike (told_word w) m leaves in
      record {
        after = p;
        meets = meets;
        describes = described_alike n (told_word w) m (lent x p) alike d;
        spelled = spelled_same n m (told_word w) p p (λ h inside. d.kinds h inside) spells alike (λ h. refl);
        cells = λ g j. refl;
        frames = all;
        tables = works;
        settled = settled;
      }

  -- shares may grow where no kind changes
  tables_grown : (q : Plain) → IsGrown p q → ((h : ℕ) → q.kinds h ≡ p.kinds h) → (us : List TableWork) → PlainTables n owner p us → PlainTables n owner q us
  tables_grown q grown same [] each = tt
  tables_grown q grown same (t ∷ us) each =
      let is = each.0 in
      let b = grown t.frame is.share is.was in (
        record {
          inside = is.inside;
          share = b.share;
          was = b.is;
          owns = ap (λ o. o == owner) b.owner ∙ is.owns;
          some = (let some = is.some in let more = b.more in omega arith);
          work = same t.frame ∙ is.work;
          low = is.low;
          high = is.high;
          few = is.few;
        },
        each.1,
        tables_grown q grown same us each.2,
      )

  grown_frame : (q : Plain) → IsGrown p q → ((h : ℕ) → q.kinds h ≡ p.kinds h) → (h : ℕ) → IsStill (p.kinds h) (count_of p h) ⊎ IsIn ts h → IsStill (q.kinds h) (count_of q h) ⊎ IsIn ts h
  grown_frame q grown same h (inl still) = inl (subst (λ k. IsStill k (count_of q h)) (sym (same h)) (still_more (p.kinds h) (count_of p h) (count_of q h) (grown_count p q h grown) still))
  grown_frame q grown same h (inr one) = inr one

  -- ---- a reference is taken
  module _ (g : ℕ) (none : refer n owner g (m (Refs g)) ≡ None) where
    pub taking : Both n owner g x p
    taking = both_there n m owner g x p machine d none

    unfoldable pub with_one : Plain
    with_one = with_share g (raised_share taking.share) p

    pub got_one : Describes n (got g m) (lent x with_one)
    unfolding with_one taking
    got_one = got_both n m owner g x p machine d none

    pub one_grown : IsGrown p with_one
    unfolding with_one
    one_grown = raised_grown g taking.share taking.was

    pub one_here : with_one.shares g ≡ Some (raised_share taking.share)
    unfolding with_one
    one_here = at_here g (Some (raised_share taking.share)) p.shares

    one_count : count_of with_one g ≡ count_of p g + 1
    one_count = ap share_count one_here ∙ ap (λ c. c + 1) (sym (ap share_count taking.was))

    met_read : Leaves w (got g m) → Met (demands.Read g)
    unfolding with_one
    met_read leaves =
        let alike = same_alike (told_word w) (got g m) leaves in
        record {
          after = with_one;
          meets = taking.takes;
          describes = described_alike n (told_word w) (got g m) (lent x with_one) alike got_one;
          spelled = spelled_same n (got g m) (told_word w) p with_one (λ h inside. d.kinds h inside) (λ h inside out. spells h inside out) alike (λ h. refl);
          cells = λ h j. refl;
          frames = λ h inside. grown_frame with_one one_grown (λ h. refl) h (all h inside);
          tables = tables_grown with_one one_grown (λ h. refl) ts works;
          settled = tt;
        }

    room_here : count_at m g < n.limit
    room_here =
        let c : count_at m g ≡ taking.share.count + x g = sym (ap share_count (d.shares g taking.inside)) ∙ ap (λ o. share_count (more_of (x g) o)) taking.was in
        let low = taking.room in
        omega arith

    ready_here : type_stop g (level_type l) (m (Kind g)) ≡ None → IsReady n (level_type l) (m (Kind g))
    ready_here free = frame_ready g l (m (Kind g)) (count_at m g) ts above free n room_here (frame_there n owner m x p ts d spells works all g taking.inside)

    -- it comes into work
    module _ (progress : ℕ) (own : Bool) (way : IsTakenOf (got g m) g (level_type l) (types.InWork progress own)) (alike : Alike (told_word w) (taken g (level_type l) (types.InWork progress own) (got g m))) where
      open_plain : IsOpenedPlain n l g progress own (lent x with_one) (told_word w)
      open_plain = taken_plain n (got g m) (told_word w) (lent x with_one) l owner g (types.InWork progress own) machine got_one taking.inside (ready_here way.0) way.0 way.1 alike

      pub record OpensTo : Type 0 where
        pub after : Plain
        pub dead : is_dead (with_one.kinds g) ≡ true
        pub is : after ≡ with_kind g (work_kind (level_type l) false 0) with_one
        pub none_done : progress ≡ 0
        pub mine : own ≡ true
        pub describes : Describes n (told_word w) (lent x after)
        pub spelled : Spelled n (told_word w) after
        pub grown : IsGrown p after
        pub but : IsKindBut g p after
        pub here : after.kinds g ≡ work_kind (level_type l) false 0
        pub share : Share
        pub was : after.shares g ≡ Some share
        pub owns : (share.owner == owner) ≡ true
        pub some : 0 < share.count

      pub opens_to : OpensTo
      unfolding with_one
      opens_to =
          let k = kind_at m g in
          let o = open_plain in
          let dead : is_dead (p.kinds g) ≡ true = o.dead in
          let new = work_kind (level_type l) false 0 in
          let after = with_kind g new with_one in
          let here : after.kinds g ≡ new = at_here g new p.kinds in
          let but : IsKindBut g p after = λ h apart. at_there g h new p.kinds apart in
          let stands_dead = dead_stands k (level_type l) (dead_there n owner m x p ts d spells works g taking.inside dead) in
          record {
            after = after;
            dead = dead;
            is = refl;
            none_done = o.none;
            mine = o.mine;
            describes = o.describes;
            spelled = spelled_other n (got g m) (told_word w) p after (λ h inside. d.kinds h inside) (λ h inside out. spells h inside out) g (work_unmarked (begun_kind k (level_type l)))
                (subst (λ s. Alike (told_word w) (taken_by g (level_type l) k s (types.InWork progress own) (got g m))) stands_dead alike) (λ out. work_out (level_type l) (subst (λ j. (is_dead j ≡ true) ⊎ (j.validated ≡ true)) here out)) but;
            grown = one_grown;
            but = but;
            here = here;
            share = raised_share taking.share;
            was = one_here;
            owns = taking.owns;
            some = omega arith;
          }

    module _ (way : IsTakenOf (got g m) g (level_type l) types.Counted) (alike : Alike (told_word w) (taken g (level_type l) types.Counted (got g m))) where
      free : type_stop g (level_type l) (m (Kind g)) ≡ None
      free = way.0

      inside : g < n.frames
      inside = taking.inside

      as_plain : IsTakenPlain n l owner g (lent x with_one) (told_word w)
      as_plain = taken_plain n (got g m) (told_word w) (lent x with_one) l owner g types.Counted machine got_one inside (ready_here free) free way.1 alike

      typed_done : (after : Plain) → take_at l n owner g with_one ≡ fine after → as_plain.left ≡ lent x after → ((h : ℕ) → after.shares h ≡ with_one.shares h) → ((h j : ℕ) → after.cells h j ≡ p.cells h j) → IsKindBut g p after →
          IsStill (after.kinds g) (count_of after g) → (after.kinds g).validated ≡ true → IsStill (p.kinds g) (count_of p g) → Spelled n (told_word w) after → Met (demands.Typed g (level_type l))
      unfolding with_one
      typed_done after takes left shares cells but still live was spelled =
          let grown : IsGrown p after = λ h s is. let b = one_grown h s is in record { share = b.share; is = shares h ∙ b.is; owner = b.owner; more = b.more } in
          record {
            after = after;
            meets = ap (λ o. then_by o (take_at l n owner g)) taking.takes ∙ takes;
            describes = subst (λ q. Describes n (told_word w) q) left as_plain.describes;
            spelled = spelled;
            cells = cells;
            frames = frames_but n owner p after g grown but ts ts (λ h off one. one) (inl still) all;
            tables = tables_but n owner p after g grown but ts (still_off n owner p g (count_of p g) ts was works) works;
            settled = (inside, live);
          }

      live_case : IsLiveWithin (p.kinds g) (count_of p g) → Met (demands.Typed g (level_type l))
      unfolding with_one
      live_case live =
          let k = kind_at m g in
          let there = live_there n owner m x p ts d spells works g inside live in
          let off : is_dead (p.kinds g) ≡ false = ap (λ b. not b && (not (p.kinds g).partial && not (p.kinds g).locked)) live.live in
          let lt = live_takes n owner g l (lent x with_one) off as_plain.left as_plain.takes in
          let new = raised_kind (p.kinds g) in
          let after = with_kind g new with_one in
          let here : after.kinds g ≡ new = at_here g new p.kinds in
          let but : IsKindBut g p after = λ h apart. at_there g h new p.kinds apart in
          let count : count_of after g ≡ count_of p g + 1 = one_count in
          typed_done after (takes_live n owner g l with_one off lt.0) lt.1 (λ h. refl) (λ h j. refl) but
          (subst (λ j. IsStill j (count_of after g)) (sym here) (inr (record { live = live.live; some = omega arith; within = (let low = live.within in omega arith) }))) (ap (λ (j : KindWord). j.validated) here ∙ live.live) (inr live)
          (elim (live_stands k (level_type l) there.live there.some) [
            | inl counted ↦
                spelled_set n (got g m) (told_word w) p after (λ h inside. d.kinds h inside) (λ h inside out. spells h inside out) g (raised_kind k) (subst (λ s. Alike (told_word w) (taken_by g (level_type l) k s types.Counted (got g m))) counted alike)
                (raised_is k (spells g inside (inr live.live)) there.live there.some (let low = there.within in let few = machine.few_counts in let r = room_here in omega arith)) (inr there.live) but
            | inr other ↦ absurd (no_other g l (m (Kind g)) (count_at m g) ts above free other)
          ])

      dead_case : is_dead (p.kinds g) ≡ true → Met (demands.Typed g (level_type l))
      unfolding with_one
      dead_case dead =
          let k = kind_at m g in
          let stands_dead = dead_stands k (level_type l) (dead_there n owner m x p ts d spells works g inside dead) in
          let first : is_read_first (level_type l) ≡ false = subst (λ s. IsTakenBy (level_type l) k s types.Counted) stands_dead way.1 in
          let new = live_kind (level_type l) 1 in
          let after = with_kind g new (with_kind g (work_kind (level_type l) false 0) with_one) in
          let here : after.kinds g ≡ new = at_here g new (with_kind g (work_kind (level_type l) false 0) with_one).kinds in
          let but : IsKindBut g p after =
          λ h apart. at_there g h new (with_kind g (work_kind (level_type l) false 0) with_one).kinds apart ∙ at_there g h (work_kind (level_type l) false 0) p.kinds apart in
          let count : count_of after g ≡ count_of p g + 1 = one_count in
          typed_done after (memory_takes n owner g l with_one first dead) (ap (λ (o : PlainOutcome). o.left) (sym as_plain.takes ∙ memory_takes n owner g l (lent x with_one) first dead)) (λ h. refl) (λ h j. refl) but
          (subst (λ j. IsStill j (count_of after g)) (sym here) (inr (record { live = refl; some = omega arith; within = omega arith }))) (ap (λ (j : KindWord). j.validated) here) (inl dead)
          (spelled_set n (got g m) (told_word w) p after (λ h inside. d.kinds h inside) (λ h inside out. spells h inside out) g new (subst (λ s. Alike (told_word w) (taken_by g (level_type l) k s types.Counted (got g m))) stands_dead alike)
          (live_is (level_type l) (level_type-typed l) 1 (omega arith)) (inr refl) but)

      typed_by : IsStill (p.kinds g) (count_of p g) ⊎ IsIn ts g → Met (demands.Typed g (level_type l))
      typed_by (inl (inl dead)) = dead_case dead
      typed_by (inl (inr live)) = live_case live
      typed_by (inr one) = absurd (no_other g l (m (Kind g)) (count_at m g) ts above free (work_other (kind_at m g) ts g l above (in_work n owner m x p ts d spells works ts g inside works one)))

      pub met_typed : Met (demands.Typed g (level_type l))
      met_typed = typed_by (all g inside)

  read_by : (g : ℕ) (o : Option Refusal) → refer n owner g (m (Refs g)) ≡ o → RefersPlainly w m (Ok Recorded) o (got g m) → Met (demands.Read g)
  read_by g (Some y) is a = absurd (let e = a.0 in cc)
  read_by g None is a = met_read g is a.1

  asks_by : (g : ℕ) (o : Option Refusal) → refer n owner g (m (Refs g)) ≡ o → TypedPlainly w m g (level_type l) (Ok Recorded) o → Met (demands.Typed g (level_type l))
  asks_by g (Some y) is a = absurd (let e = a.0 in cc)
  asks_by g None is a = met_typed g is a.0 a.1

  pub met : (e : Demand) → ((g : ℕ) (t : PageType) → e ≡ demands.Typed g t → t ≡ level_type l) → EntersPlainly n w m f i owner (Ok Recorded) e → Met e
  met demands.Nothing asks a = met_same demands.Nothing refl tt a.1
  met demands.Bad asks a = absurd (let e = a.0 in cc)
  met (demands.Read g) asks a = read_by g (refer n owner g (m (Refs g))) refl a
  met (demands.Typed g t) asks a =
      subst (λ u. Met (demands.Typed g u)) (sym (asks g t refl)) (asks_by g (refer n owner g (m (Refs g))) refl (subst (λ u. TypedPlainly w m g u (Ok Recorded) (refer n owner g (m (Refs g)))) (asks g t refl) a))
