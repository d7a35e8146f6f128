-- Down to where a table was left: each parked table is found by the last entry of the one around it.
use Rattle.std.proofs.Common.{◌≡◌, ◌⊎◌, ℕ, ◌+◌, ◌-◌, ◌<◌, ◌==◌, ◌&&◌, not, nat_le, nat_lt, if◌then◌else◌, Bool, true, false, List, [], ◌∷◌, Option, Some, None, Result, Ok, Err, refl, sym, ap, ◌∙◌, subst, arith, inl, inr}
use Rattle.std.proofs.lemmas.Bool.Decides.{nat_tests}
use Rattle.xp_words.specs.Entries.{demand_at}
use Rattle.xp_words.specs.Machine.{IsMachine, Machine}
use Rattle.xp_words.specs.declared.entry.Demand.{Demand}
use Rattle.xp_words.specs.declared.entry.Demand.TheVariants as demands
use Rattle.xp_words.specs.declared.kind.KindWord.{KindWord}
use Rattle.xp_words.specs.declared.place.Place.TheVariants.{Cell, Kind, Refs}
use Rattle.xp_words.specs.declared.reply.Refusal.{Refusal}
use Rattle.xp_words.specs.declared.reply.Stop.{Stop}
use Rattle.xp_words.specs.declared.reply.Stop.TheVariants.{Refused}
use Rattle.xp_board.specs.KindSteps.{resumed_kind}
use Rattle.xp_board.specs.Readings.{is_dead, is_live_word, kind_at}
use Rattle.xp_board.specs.Told.{Post, PortValue, told_word}
use Rattle.step_maker.specs.Moves.{Came}
use Rattle.step_maker.specs.Plain.{Leaves, Words}
use Rattle.step_maker.proofs.Coming.{came_post}
use Rattle.step_maker.proofs.Telling.{came_telling}
use Rattle.step_maker.specs.Twins.{Alike}
use Rattle.frame_words.specs.Plain.{got, refer}
use Rattle.frame_types.specs.Plain.{IsTakenBy, set_kind, taken as types_taken, type_stop, work_unmarked}
use Rattle.frame_types.specs.Standing.{standing_of}
use Rattle.frame_types.specs.declared.taking.Taken.TheVariants as types
use Rattle.kind_words.specs.Kinds.{partial_kind, work_kind}
use Rattle.partial_state.specs.Levels.{level_type}
use Rattle.partial_state.specs.declared.stack.TableWork.{TableWork}
use Rattle.table_entries.specs.Plain.{AgainBy, AgainWhere, IsTakenOf, ResumesPlainly}
use Rattle.table_entries.specs.declared.resuming.Resumed.{Resumed}
use Rattle.table_entries.specs.declared.resuming.Resumed.TheVariants as again
use Rattle.table_law.specs.Alone.{take_reference}
use Rattle.table_law.specs.Plain.{Describes, Plain, Share, raised_share, with_kind, with_share}
use Rattle.table_law.proofs.Counting.{at_here, at_there}
use Rattle.table_law.proofs.Describing.{sober_live}
use Rattle.table_twins.specs.Answers.{IsSameAnswer}
use Rattle.table_twins.proofs.Referring.{same_answer}
use Rattle.table_entries.specs.Acquiring.{ResumedEntry, TookOn, fresh, opened, settled, stopped, table_opened, taken, waiting}
use Rattle.course_laws.proofs.Walking.{again_came}
use Rattle.course_laws.proofs.Halfway.{Half, all_like, chained_onto, off_below, onto, onto_like, over, over_off, overlay, settled_like, tables_onto, under_like}
use Rattle.course_laws.proofs.Extras.{Both, IsSame, both_there, described_same, extra, got_both, lent, more_of}
use Rattle.course_laws.proofs.Recording.{IsSettled, work_out}
use Rattle.course_laws.proofs.Refusing.{IsForWords, full_by, roomy}
use Rattle.course_laws.proofs.Retaking.{not_counted, not_stopped, own_is, partial_live, progress_is, retaken, retaken_words}
use Rattle.course_laws.proofs.Travelling.{Ends, wait_ends}
use Rattle.course_laws.proofs.Under.{IsNamed, PlainTables, TableOf, spelled_other}
use Rattle.course_laws.proofs.Unwinding.{HalfAt, half_same}
use Rattle.course_laws.proofs.Pacing.{Aim}

-- ---- a reference is lent
lends_at : (b : Bool) (g h : ℕ) (x : ℕ → ℕ) (s : Share) (o : Option Share) → o ≡ Some s → (h == g) ≡ b →
    more_of ((if b then 1 else 0) + x h) (if b then Some s else o) ≡ more_of (x h) (if b then Some (raised_share s) else o)
lends_at true g h x s o was is = let e : s.count + (1 + x h) ≡ s.count + 1 + x h = omega arith in ap (λ c. Some (record { owner = s.owner; allocated = s.allocated; count = c })) e
lends_at false g h x s o was is = let e : 0 + x h ≡ x h = omega arith in ap (λ c. more_of c o) e

pub lends_one : (x : ℕ → ℕ) (p : Plain) (g : ℕ) (s : Share) → p.shares g ≡ Some s → IsSame (lent x (with_share g (raised_share s) p)) (lent (λ h. (if h == g then 1 else 0) + x h) p)
lends_one x p g s was =
    record {
      shares = λ h. shares_by (h == g) h refl;
      kinds = λ h. refl;
      cells = λ h i. refl;
    }
  where
    shares_by : (b : Bool) (h : ℕ) → (h == g) ≡ b → more_of ((if b then 1 else 0) + x h) (p.shares h) ≡ more_of (x h) (if b then Some (raised_share s) else p.shares h)
    shares_by true h is =
        let e : h ≡ g = grind (arith, nat_tests) in
        ap (λ o. more_of (1 + x h) o) (ap p.shares e ∙ was) ∙ lends_at true g h x s (Some s) refl is
    shares_by false h is = let e : 0 + x h ≡ x h = omega arith in ap (λ c. more_of c (p.shares h)) e

-- ---- the table that the last entry of another names
module _ (n : Machine) (owner : ℕ) (m : Words) (w : PortValue) (r o : TableWork) (rs us : List TableWork) (a : Aim) (is : IsMachine n) (h : Half n owner m (r ∷ rs) (o ∷ us) a) where
  abbrev p : Plain
  p = h.plain

  abbrev q : Plain
  q = overlay (r ∷ rs) h.plain

  tables : PlainTables n owner h.plain (r ∷ o ∷ us)
  tables = tables_onto n owner h.plain rs (r ∷ o ∷ us) h.under.tables

  of_r : TableOf n owner h.plain r
  of_r = tables.0

  of_o : TableOf n owner h.plain o
  of_o = tables.2.0

  named : IsNamed h.plain r o
  named = (chained_onto h.plain rs (r ∷ o ∷ us) h.under.chain).0

  partial : q.kinds r.frame ≡ partial_kind (level_type r.level) false false r.done 0
  partial = at_here r.frame (partial_kind (level_type r.level) false false r.done 0) (over rs h.plain.kinds)

  asked_there : demand_at (level_type o.level) (o.done - 1) (m (Cell o.frame (o.done - 1))) ≡ demands.Typed r.frame (level_type r.level)
  asked_there =
      ap (λ c. demand_at (level_type o.level) (o.done - 1) c) (sym (h.describes.cells o.frame (o.done - 1) of_o.inside (let some = named.1 in let few = of_o.few in omega arith))) ∙ named.2

  not_live : (b : Bool) → (b && is_live_word (m (Kind r.frame))) ≡ false
  not_live true = partial_live (kind_at m r.frame) (level_type r.level) false r.done (sym (h.describes.kinds r.frame of_r.inside) ∙ partial)
  not_live false = refl

  abbrev Again : Result Resumed Stop → Option Refusal → Type 0
  Again answer o = AgainBy w m r.frame (level_type r.level) answer o

  pub by_words : (answer : Result Resumed Stop) → ResumesPlainly n w m owner answer (demand_at (level_type o.level) (o.done - 1) (m (Cell o.frame (o.done - 1)))) → Again answer (refer n owner r.frame (m (Refs r.frame)))
  by_words answer plain =
      subst (λ b. AgainWhere n w m r.frame (level_type r.level) owner answer b) (not_live (nat_lt r.frame n.frames)) (subst (λ e. ResumesPlainly n w m owner answer e) asked_there plain)

  -- its reference is refused only at the limit
  not_whole : a.whole ≡ true → ⊥
  not_whole whole = let e = (h.mine whole).1 in cc

  ref_there : (y : Refusal) → refer n owner r.frame (m (Refs r.frame)) ≡ Some y → IsForWords a.whole y → ⊥
  ref_there y refuses known =
      let s : Share = record { owner = of_r.share.owner; allocated = of_r.share.allocated; count = of_r.share.count + extra (o ∷ us) r.frame } in
      elim (roomy a.whole y known) [
        | inl room ↦
            full_by n owner r.frame (extra (o ∷ us)) q y room (subst (λ o2. IsSameAnswer o2 (take_reference n owner r.frame (lent (extra (o ∷ us)) q)).refusal) refuses (same_answer n m (lent (extra (o ∷ us)) q) owner r.frame h.describes))
            (nat_le n.limit s.count) s (ap (more_of (extra (o ∷ us) r.frame)) of_r.was) of_r.owns of_r.inside refl
        | inr whole ↦ not_whole whole
      ]

  -- with the reference taken
  module _ (none : refer n owner r.frame (m (Refs r.frame)) ≡ None) where
    lends : Both n owner r.frame (extra (o ∷ us)) q
    lends = both_there n m owner r.frame (extra (o ∷ us)) q is h.describes none

    with_one : Describes n (got r.frame m) (lent (λ g. (if g == r.frame then 1 else 0) + extra (o ∷ us) g) q)
    unfolding lends
    with_one =
        described_same n (got r.frame m) (lent (extra (o ∷ us)) (with_share r.frame (raised_share lends.share) q)) (lent (λ g. (if g == r.frame then 1 else 0) + extra (o ∷ us) g) q) (lends_one (extra (o ∷ us)) q r.frame lends.share lends.was)
        (got_both n m owner r.frame (extra (o ∷ us)) q is h.describes none)

    pub never_stopped : (e : Stop) → type_stop r.frame (level_type r.level) (m (Kind r.frame)) ≡ Some e → ⊥
    never_stopped e stop = not_stopped n (got r.frame m) m (lent (λ g. (if g == r.frame then 1 else 0) + extra (o ∷ us) g) q) r.frame r.level false r.done with_one of_r.inside of_r.low partial e stop

    pub never_counted : IsTakenBy (level_type r.level) (kind_at (got r.frame m) r.frame) (standing_of (kind_at (got r.frame m) r.frame) (level_type r.level)) types.Counted → ⊥
    never_counted way = not_counted n (got r.frame m) m (lent (λ g. (if g == r.frame then 1 else 0) + extra (o ∷ us) g) q) r.frame r.level false r.done with_one of_r.inside of_r.low partial way

    module _ (progress : ℕ) (own : Bool) (way : IsTakenOf (got r.frame m) r.frame (level_type r.level) (types.InWork progress own)) (alike : Alike (told_word w) (types_taken r.frame (level_type r.level) (types.InWork progress own) (got r.frame m))) where
      abbrev new : TableWork
      new = table_opened o r.frame progress own true

      abbrev lent_q : Plain
      lent_q = lent (λ g. (if g == r.frame then 1 else 0) + extra (o ∷ us) g) q

      own_off : own ≡ false
      own_off = own_is n (got r.frame m) (told_word w) lent_q r.frame r.level false r.done with_one of_r.inside of_r.low partial progress own way.1

      done_is : progress ≡ r.done
      done_is = progress_is n (got r.frame m) (told_word w) lent_q r.frame r.level false r.done with_one of_r.inside of_r.low partial progress own way.1

      words : Alike (told_word w) (set_kind r.frame (work_unmarked (resumed_kind (kind_at (got r.frame m) r.frame))) (got r.frame m))
      words = retaken_words n (got r.frame m) (told_word w) lent_q r.frame r.level false r.done with_one of_r.inside of_r.low partial progress own way.1 alike

      work_here : (over rs h.plain.kinds) r.frame ≡ work_kind (level_type r.level) false 0
      work_here = over_off rs h.plain.kinds r.frame (off_below n owner h.plain r.frame r.level rs r (o ∷ us) of_r.high (omega arith) of_r.work h.under.tables) ∙ of_r.work

      kinds_by : (b : Bool) (g : ℕ) → (g == r.frame) ≡ b → over rs h.plain.kinds g ≡ (if b then work_kind (level_type r.level) false 0 else (if b then partial_kind (level_type r.level) false false r.done 0 else over rs h.plain.kinds g))
      kinds_by true g same = let e : g ≡ r.frame = grind (arith, nat_tests) in ap (over rs h.plain.kinds) e ∙ work_here
      kinds_by false g same = refl

      same_there : IsSame (with_kind r.frame (work_kind (level_type r.level) false 0) lent_q) (lent (extra (new ∷ o ∷ us)) (overlay rs h.plain))
      same_there =
          record {
            shares = λ g. ap (λ b. more_of ((if b then 0 else (if g == r.frame then 1 else 0)) + extra (o ∷ us) g) (h.plain.shares g)) own_off;
            kinds = λ g. kinds_by (g == r.frame) g refl;
            cells = λ g i. refl;
          }

      like_r : new ≡ record r { own = own; recorded = true }
      like_r =
          let level : o.level - 1 ≡ r.level = (let e = named.0 in omega arith) in
          ap (λ l. record { frame = r.frame; level = l; done = progress; own = own; recorded = true }) level ∙ ap (λ k. record { frame = r.frame; level = r.level; done = k; own = own; recorded = true }) done_is

      pub retaken_half : Half n owner (told_word w) rs (table_opened o r.frame progress own true ∷ o ∷ us) a
      retaken_half =
          let like = onto_like rs (r ∷ o ∷ us) (new ∷ o ∷ us) (like_r, all_like (o ∷ us)) in
          record {
            plain = h.plain;
            under = under_like n owner h.plain (onto rs (r ∷ o ∷ us)) (onto rs (new ∷ o ∷ us)) a.outcome like h.under;
            describes = described_same n (told_word w) (with_kind r.frame (work_kind (level_type r.level) false 0) lent_q) (lent (extra (new ∷ o ∷ us)) (overlay rs h.plain)) same_there
                (retaken n (got r.frame m) (told_word w) lent_q r.frame r.level false r.done with_one of_r.inside of_r.low partial (got r.frame m) lent_q with_one words);
            spelled = spelled_other n (got r.frame m) (told_word w) q (overlay rs h.plain) (λ g inside. h.describes.kinds g inside) (λ g inside out. h.spelled g inside out) r.frame _ words
                (λ out. work_out (level_type r.level) (subst (λ j. (is_dead j ≡ true) ⊎ (j.validated ≡ true)) work_here out)) (λ g off. sym (at_there r.frame g (partial_kind (level_type r.level) false false r.done 0) (over rs h.plain.kinds) off));
            flags = (ap not (sym own_off), h.flags);
            mine = λ whole. absurd (not_whole whole);
            settled = settled_like n h.plain (onto rs (r ∷ o ∷ us)) (onto rs (new ∷ o ∷ us)) like h.settled;
          }

-- ---- the last entry, where no table is parked
module _ (n : Machine) (owner : ℕ) (m : Words) (w : PortValue) (o : TableWork) (us : List TableWork) (a : Aim) (h : Half n owner m [] (o ∷ us) a) (some : 0 < o.done) where
  of_last : TableOf n owner h.plain o
  of_last = h.under.tables.0

  live_by : (g : ℕ) → IsSettled n h.plain (demands.Typed g (level_type 0)) → (nat_lt g n.frames && is_live_word (m (Kind g))) ≡ true
  live_by g is =
      let inside : nat_lt g n.frames ≡ true = (let low = is.0 in grind (arith, nat_tests)) in
      let live : is_live_word (m (Kind g)) ≡ true = sym (sober_live (kind_at m g)) ∙ (sym (ap (λ (k : KindWord). k.validated) (h.describes.kinds g is.0)) ∙ is.1) in
      ap (λ b. b && is_live_word (m (Kind g))) inside ∙ live

  settled_by : (e : Demand) (answer : Result Resumed Stop) → IsSettled n h.plain e → ResumesPlainly n w m owner answer e → (answer ≡ Ok again.Settled) × Leaves w m
  settled_by demands.Nothing answer is plain = plain
  settled_by demands.Bad answer is plain = plain
  settled_by (demands.Read g) answer is plain = plain
  settled_by (demands.Typed g t) answer is plain = subst (λ b. AgainWhere n w m g t owner answer b) (live_by g is) plain

  pub stays : (answer : Result Resumed Stop) → ResumesPlainly n w m owner answer (demand_at (level_type o.level) (o.done - 1) (m (Cell o.frame (o.done - 1)))) → (answer ≡ Ok again.Settled) × Leaves w m
  stays answer plain =
      settled_by (demand_at (level_type o.level) (o.done - 1) (m (Cell o.frame (o.done - 1)))) answer
      (subst (λ c. IsSettled n h.plain (demand_at (level_type o.level) (o.done - 1) c)) (h.describes.cells o.frame (o.done - 1) of_last.inside (let few = of_last.few in omega arith)) (h.settled some)) plain

-- ---- the whole way down
abbrev pub OnOutcome : Machine → ℕ → PortValue → List TableWork → Aim → Result Bool Stop → Type 0
OnOutcome n owner w xs a (Ok done) = HalfAt n owner w [] xs a
OnOutcome n owner w xs a (Err e) = Ends n owner w xs a e

module _ (n : Machine) (owner : ℕ) (a : Aim) (is : IsMachine n) where
  module _ (v w : PortValue) (o : TableWork) (us : List TableWork) where
    plain_of : (rs : List TableWork) (answer : Result Resumed Stop) → HalfAt n owner v rs (o ∷ us) a → ResumedEntry v w owner o answer → ResumesPlainly n w (told_word v) owner answer (demand_at (level_type o.level) (o.done - 1) (told_word v (Cell o.frame (o.done - 1))))
    plain_of rs answer g took = subst (λ k. ResumesPlainly k w (told_word v) owner answer (demand_at (level_type o.level) (o.done - 1) (told_word v (Cell o.frame (o.done - 1))))) g.machine (took.plain g.telling)

    -- none is parked
    last_is : (answer : Result Resumed Stop) → HalfAt n owner v [] (o ∷ us) a → 0 < o.done → ResumedEntry v w owner o answer → (answer ≡ Ok again.Settled) × Leaves w (told_word v)
    last_is answer g some took = stays n owner (told_word v) w o us a g.half some answer (plain_of [] answer g took)

    came_half : (rs xs : List TableWork) → HalfAt n owner v [] (o ∷ us) a → Came v w → Half n owner (told_word w) rs xs a → HalfAt n owner w rs xs a
    came_half rs xs g came half = record { machine = ap (λ (q : Post). q.machine) (came_post v w came) ∙ g.machine; telling = came_telling v w came ∙ g.telling; half = half }

    settled_at : HalfAt n owner v [] (o ∷ us) a → 0 < o.done → ResumedEntry v w owner o (Ok again.Settled) → HalfAt n owner w [] (o ∷ us) a
    settled_at g some took = came_half [] (o ∷ us) g (again_came v w owner o _ took) (half_same n owner (told_word v) (told_word w) [] (o ∷ us) a (last_is (Ok again.Settled) g some took).1 g.half)

    -- one is
    module _ (r : TableWork) (rs : List TableWork) (g : HalfAt n owner v (r ∷ rs) (o ∷ us) a) where
      found : (answer : Result Resumed Stop) → ResumedEntry v w owner o answer → AgainBy w (told_word v) r.frame (level_type r.level) answer (refer n owner r.frame (told_word v (Refs r.frame)))
      found answer took = by_words n owner (told_word v) w r o rs us a is g.half answer (plain_of (r ∷ rs) answer g took)

      never_settled : (x : Option Refusal) → AgainBy w (told_word v) r.frame (level_type r.level) (Ok again.Settled) x → ⊥
      never_settled (Some y) is = let e = is.0 in cc
      never_settled None is = is

      never_taken : (f : ℕ) (x : Option Refusal) → refer n owner r.frame (told_word v (Refs r.frame)) ≡ x → AgainBy w (told_word v) r.frame (level_type r.level) (Ok (again.Taken f)) x → ⊥
      never_taken f (Some y) refers a = let e = a.0 in cc
      never_taken f None refers b = never_counted n owner (told_word v) w r o rs us a is g.half refers b.1.1

      ends_by : (e : Stop) (x : Option Refusal) → refer n owner r.frame (told_word v (Refs r.frame)) ≡ x → AgainBy w (told_word v) r.frame (level_type r.level) (Err e) x → Ends n owner w (o ∷ us) a e
      ends_by e (Some y) refers b = let same : e ≡ Refused y = (let k = b.0 in cc) in subst (Ends n owner w (o ∷ us) a) (sym same) (λ known. absurd (ref_there n owner (told_word v) w r o rs us a is g.half y refers known))
      ends_by e None refers b = absurd (never_stopped n owner (told_word v) w r o rs us a is g.half refers e b.0)

      opened_by : (f progress : ℕ) (x : Option Refusal) → refer n owner r.frame (told_word v (Refs r.frame)) ≡ x → AgainBy w (told_word v) r.frame (level_type r.level) (Ok (again.Opened f progress)) x →
          Half n owner (told_word w) rs (table_opened o f progress false true ∷ o ∷ us) a
      opened_by f progress (Some y) refers b = absurd (let e = b.0 in cc)
      opened_by f progress None refers b =
          subst (λ f. Half n owner (told_word w) rs (table_opened o f progress false true ∷ o ∷ us) a) (sym b.0) (retaken_half n owner (told_word v) w r o rs us a is g.half refers progress false b.1 b.2)

      opened_at : (f progress : ℕ) → ResumedEntry v w owner o (Ok (again.Opened f progress)) → HalfAt n owner w rs (table_opened o f progress false true ∷ o ∷ us) a
      opened_at f progress took =
          let came = again_came v w owner o _ took in
          record {
            machine = ap (λ (q : Post). q.machine) (came_post v w came) ∙ g.machine;
            telling = came_telling v w came ∙ g.telling;
            half = opened_by f progress (refer n owner r.frame (told_word v (Refs r.frame))) refl (found (Ok (again.Opened f progress)) took);
          }

      some_done : 0 < o.done
      some_done = (chained_onto g.half.plain rs (r ∷ o ∷ us) g.half.under.chain).0.1

  pub taken_on : (rs : List TableWork) (v : PortValue) (ts : List TableWork) (w : PortValue) (xs : List TableWork) (r : Result Bool Stop) → HalfAt n owner v rs ts a → TookOn owner v ts w xs r → OnOutcome n owner w xs a r
  taken_on [] _ _ _ _ _ g (fresh v t ts none) = g
  taken_on (r ∷ rs) _ _ _ _ _ g (fresh v t ts none) = absurd (let some = some_done v v t ts r rs g in omega arith)
  taken_on [] _ _ _ _ _ g (settled v w t ts some took) = settled_at v w t ts g some took
  taken_on (r ∷ rs) _ _ _ _ _ g (settled v w t ts some took) = absurd (never_settled v w t ts r rs g _ (found v w t ts r rs g (Ok again.Settled) took))
  taken_on [] _ _ _ _ _ g (taken v u w t ts f some took back) = absurd (let e = (last_is v u t ts (Ok (again.Taken f)) g some took).0 in cc)
  taken_on (r ∷ rs) _ _ _ _ _ g (taken v u w t ts f some took back) = absurd (never_taken v u t ts r rs g f _ refl (found v u t ts r rs g (Ok (again.Taken f)) took))
  taken_on [] _ _ _ _ _ g (opened v u w t ts us f progress answer some took on) = absurd (let e = (last_is v u t ts (Ok (again.Opened f progress)) g some took).0 in cc)
  taken_on (r ∷ rs) _ _ _ _ _ g (opened v u w t ts us f progress answer some took on) = taken_on rs u (table_opened t f progress false true ∷ t ∷ ts) w us answer (opened_at v u t ts r rs g f progress took) on
  taken_on rs _ _ _ _ _ g (waiting v u w t ts f stamp stop some took left) = wait_ends a.whole _ stop (took.shows 0).1
  taken_on [] _ _ _ _ _ g (stopped v w t ts stop some took) = absurd (let e = (last_is v w t ts (Err stop) g some took).0 in cc)
  taken_on (r ∷ rs) _ _ _ _ _ g (stopped v w t ts stop some took) = ends_by v w t ts r rs g stop _ refl (found v w t ts r rs g (Err stop) took)
