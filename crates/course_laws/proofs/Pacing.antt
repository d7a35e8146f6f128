-- The next entry of the innermost table, with references lent to the tables that were resumed.
use Rattle.std.proofs.Common.{◌≡◌, ℕ, suc, ◌+◌, ◌-◌, ◌<◌, ◌≤◌, not, if◌then◌else◌, ◌==◌, Bool, true, false, List, [], ◌∷◌, Result, Ok, Err, refl, sym, ap, ◌∙◌, subst, inl, inr, arith}
use Rattle.xp_words.specs.Entries.{demand_at}
use Rattle.xp_words.specs.Machine.{IsMachine, Machine}
use Rattle.xp_words.specs.declared.entry.Demand.{Demand}
use Rattle.xp_words.specs.declared.entry.Demand.TheVariants.{Typed}
use Rattle.xp_words.specs.declared.kind.PageType.{PageType}
use Rattle.xp_words.specs.declared.place.Place.TheVariants.{Cell}
use Rattle.xp_words.specs.declared.reply.Pause.TheVariants.{Due}
use Rattle.xp_words.specs.declared.reply.Refusal.{Refusal}
use Rattle.xp_words.specs.declared.reply.Stop.{Stop}
use Rattle.xp_words.specs.declared.reply.Stop.TheVariants.{Refused, Paused}
use Rattle.xp_board.specs.Told.{PortValue, is_telling, told_word}
use Rattle.step_maker.specs.Plain.{Words}
use Rattle.frame_words.specs.Plain.{got}
use Rattle.kind_words.specs.Kinds.{work_kind}
use Rattle.partial_state.specs.Levels.{level_type}
use Rattle.partial_state.specs.declared.stack.TableWork.{TableWork}
use Rattle.table_entries.specs.Plain.{EntersPlainly, TwinEntry}
use Rattle.table_entries.specs.declared.entries.Entered.{Entered}
use Rattle.table_entries.specs.declared.entries.Entered.TheVariants.{Recorded, Opened}
use Rattle.table_law.specs.Alone.{Cause, PlainOutcome, fine, meet, refused, take_at}
use Rattle.table_law.specs.Levels.{entry_of}
use Rattle.table_law.specs.Plain.{Describes, Plain, with_kind}
use Rattle.table_law.specs.Stack.{rest, table_left}
use Rattle.table_law.proofs.Counting.{asks_at}
use Rattle.table_twins.specs.Answers.{IsCause}
use Rattle.table_entries.specs.Acquiring.{one_entry_more, table_opened}
use Rattle.course_laws.proofs.Frames.{IsAbove}
use Rattle.course_laws.proofs.Entering.{Opens, opened_table, opens}
use Rattle.course_laws.proofs.Stacking.{lefts, lower_above, met_on, opened_from, stopped_there, undone}
use Rattle.course_laws.proofs.Extras.{IsSame, described_same, extra, lent, more_of}
use Rattle.course_laws.proofs.Recording.{IsSettled, OpensTo, met, opens_to, taking, with_one}
use Rattle.course_laws.proofs.Refusing.{IsForWords, lenders, not_due, unmet}
use Rattle.course_laws.proofs.Under.{Chained, IsNamed, PlainTables, Spelled, TableOf, Under, chained_cells, frames_but, still_off, tables_but}

-- the outermost came into work by itself; another one with its type count by an entry under way, or without, by one recorded before
abbrev pub Flagged : List TableWork → Type 0
Flagged [] = Unit {0}
Flagged (t ∷ []) = (t.own ≡ true) × (t.recorded ≡ false)
Flagged (t ∷ o ∷ ts) = (t.recorded ≡ not t.own) × Flagged (o ∷ ts)

abbrev pub AllOwn : List TableWork → Type 0
AllOwn [] = Unit {0}
AllOwn (t ∷ ts) = (t.own ≡ true) × AllOwn ts

-- what an acquisition comes to alone; and whether it is a whole one, which resumes nothing
pub record Aim : Type 0 where
  pub outcome : PlainOutcome
  pub whole : Bool

-- the words m are those of an acquisition under way with these tables in work, of which all that is left to do comes to a
pub record Carries (n : Machine) (owner : ℕ) (m : Words) (ts : List TableWork) (a : Aim) : Type 0 where
  pub plain : Plain
  pub under : Under n owner plain ts a.outcome
  pub describes : Describes n m (lent (extra ts) plain)
  pub spelled : Spelled n m plain
  pub flags : Flagged ts
  pub mine : a.whole ≡ true → AllOwn ts

-- the frame that the last entry of the innermost one asks as a table is live
abbrev pub IsLastSettled : Machine → Plain → List TableWork → Type 0
IsLastSettled n p [] = Unit {0}
IsLastSettled n p (t ∷ ts) = 0 < t.done → IsSettled n p (entry_of p (level_type t.level) t.frame (t.done - 1))

pub record Paces (n : Machine) (owner : ℕ) (m : Words) (ts : List TableWork) (a : Aim) : Type 0 where
  pub on : Carries n owner m ts a
  pub settled : IsLastSettled n on.plain ts

-- The words m are those of an acquisition that was refused for y with these tables in work: alone it comes to a, which is refused for the same
-- cause, and leaves what there is when the tables are undone.
pub record RefusedWith (n : Machine) (owner : ℕ) (m : Words) (ts : List TableWork) (y : Refusal) (a : PlainOutcome) : Type 0 where
  pub cause : Cause
  pub same : IsCause y cause
  pub plain : Plain
  pub is : a ≡ refused cause (undone (lefts ts) plain)
  pub tables : PlainTables n owner plain ts
  pub chain : Chained plain ts
  pub describes : Describes n m (lent (extra ts) plain)
  pub flags : Flagged ts

-- ---- one entry more
pub chained_more : (p : Plain) (t : TableWork) (ts : List TableWork) → Chained p (t ∷ ts) → Chained p (one_entry_more t ∷ ts)
chained_more p t [] c = tt
chained_more p t (o ∷ ts) c = c

pub flags_more : (t : TableWork) (ts : List TableWork) → Flagged (t ∷ ts) → Flagged (one_entry_more t ∷ ts)
flags_more t [] f = f
flags_more t (o ∷ ts) f = f

table_more : (n : Machine) (owner : ℕ) (p : Plain) (t : TableWork) → t.done < 512 → TableOf n owner p t → TableOf n owner p (one_entry_more t)
table_more n owner p t few is = record { inside = is.inside; share = is.share; was = is.was; owns = is.owns; some = is.some; work = is.work; low = is.low; high = is.high; few = omega arith }

pub lent_same : (x y : ℕ → ℕ) (p : Plain) → ((g : ℕ) → y g ≡ x g) → IsSame (lent x p) (lent y p)
lent_same x y p same = record { shares = λ g. ap (λ e. more_of e (p.shares g)) (same g); kinds = λ g. refl; cells = λ g i. refl }

pub extra_own : (t : TableWork) (ts : List TableWork) → t.own ≡ true → (g : ℕ) → extra (t ∷ ts) g ≡ extra ts g
extra_own t ts own g = let none : 0 + extra ts g ≡ extra ts g = omega arith in ap (λ b. (if b then 0 else (if g == t.frame then 1 else 0)) + extra ts g) own ∙ none

pub extra_none : (ts : List TableWork) (g : ℕ) → AllOwn ts → extra ts g ≡ 0
extra_none [] g all = refl
extra_none (t ∷ ts) g all = extra_own t ts all.0 g ∙ extra_none ts g all.1

module _ (u w : PortValue) (owner : ℕ) (t : TableWork) (ts : List TableWork) (a : Aim) (s : Carries u.post.machine owner (told_word u) (t ∷ ts) a) (machine : IsMachine u.post.machine) (telling : is_telling u ≡ true) (few : t.done < 512) where
  abbrev n : Machine
  n = u.post.machine

  abbrev l : ℕ
  l = t.level - 1

  abbrev m : Words
  m = told_word u

  table : TableOf u.post.machine owner s.plain t
  table = s.under.tables.0

  level : t.level ≡ suc l
  level = let low = table.low in omega arith

  above : IsAbove l (t ∷ ts)
  above = (let low = table.low in omega arith, table.high, lower_above l t.level ts (omega arith) s.under.tables.1)

  -- what it asks
  abbrev asked : Demand
  asked = demand_at (level_type (suc l)) t.done (m (Cell t.frame t.done))

  asks : (g : ℕ) (k : PageType) → asked ≡ Typed g k → k ≡ level_type l
  asks g k is = asks_at l t.done (m (Cell t.frame t.done)) g k (let high = table.high in omega arith) is

  enters : (answer : Result Entered Stop) → TwinEntry u w t.frame (level_type t.level) t.done owner answer → EntersPlainly n w m t.frame t.done owner answer asked
  enters answer twin = subst (λ k. EntersPlainly n w m t.frame t.done owner answer (demand_at (level_type k) t.done (m (Cell t.frame t.done)))) level (twin telling)

  entry_is : entry_of s.plain (level_type (suc l)) t.frame t.done ≡ asked
  entry_is = ap (λ c. demand_at (level_type (suc l)) t.done c) (s.describes.cells t.frame t.done table.inside few)

  last_is : (after : Plain) → ((g j : ℕ) → after.cells g j ≡ s.plain.cells g j) → entry_of after (level_type t.level) t.frame (t.done + 1 - 1) ≡ asked
  last_is after cells =
      let same : t.done + 1 - 1 ≡ t.done = omega arith in
      ap (λ i. demand_at (level_type t.level) i (after.cells t.frame i)) same ∙ ap (λ c. demand_at (level_type t.level) t.done c) (cells t.frame t.done)
      ∙ ap (λ k. demand_at (level_type k) t.done (s.plain.cells t.frame t.done)) level ∙ entry_is

  -- it is recorded
  pub recorded_paces : TwinEntry u w t.frame (level_type t.level) t.done owner (Ok Recorded) → Paces u.post.machine owner (told_word w) (one_entry_more t ∷ ts) a
  recorded_paces twin =
      let p = s.plain in
      let g = met n m w (extra (t ∷ ts)) p owner l t.frame t.done (t ∷ ts) machine s.describes s.spelled above s.under.frames s.under.tables asked asks (enters (Ok Recorded) twin) in
      let comes : meet n owner (take_at l n owner) t.frame t.done p (entry_of p (level_type (suc l)) t.frame t.done) ≡ fine g.after =
      ap (λ e. meet n owner (take_at l n owner) t.frame t.done p e) entry_is ∙ g.meets in
      let tables = g.tables in
      record {
        on = record {
          plain = g.after;
          under = record {
            frames = g.frames;
            tables = (table_more n owner g.after t few tables.0, tables.1, tables.2);
            chain = chained_more g.after t ts (chained_cells p g.after (t ∷ ts) g.cells s.under.chain);
            ahead = subst (λ (o : PlainOutcome). rest n owner (table_left t.frame l (512 - (t.done + 1)) ∷ lefts ts) o.left ≡ a.outcome) comes
                (met_on n owner t.frame l t.done (lefts ts) p a.outcome few s.under.ahead (ap (λ (o : PlainOutcome). o.refusal) comes));
          };
          describes = g.describes;
          spelled = g.spelled;
          flags = flags_more t ts s.flags;
          mine = s.mine;
        };
        settled = λ some. subst (IsSettled n g.after) (sym (last_is g.after g.cells)) g.settled;
      }

  -- it is refused
  pub refused_paces : (y : Refusal) → IsForWords a.whole y → TwinEntry u w t.frame (level_type t.level) t.done owner (Err (Refused y)) → RefusedWith u.post.machine owner (told_word w) (t ∷ ts) y a.outcome
  refused_paces y known twin =
      let p = s.plain in
      let c = unmet n m w (extra (t ∷ ts)) p owner l t.frame t.done (t ∷ ts) machine s.describes s.spelled above s.under.frames s.under.tables a.whole (λ whole g. extra_none (t ∷ ts) g (s.mine whole)) (lenders n owner p (t ∷ ts) s.under.tables)
      asked y table.inside few asks known (enters (Err (Refused y)) twin) in
      record {
        cause = c.refuses.cause;
        same = c.refuses.same;
        plain = p;
        is = stopped_there n owner t.frame l t.done (lefts ts) p a.outcome few s.under.ahead c.refuses.cause p (ap (λ e. meet n owner (take_at l n owner) t.frame t.done p e) entry_is ∙ c.refuses.is);
        tables = s.under.tables;
        chain = s.under.chain;
        describes = c.describes;
        flags = s.flags;
      }

  -- it does not pause for the gate
  pub never_due : TwinEntry u w t.frame (level_type t.level) t.done owner (Err (Paused Due)) → ⊥
  never_due twin = not_due n m w (extra (t ∷ ts)) s.plain owner l t.frame t.done (t ∷ ts) machine s.describes s.spelled above s.under.frames s.under.tables a.whole (λ whole g. extra_none (t ∷ ts) g (s.mine whole)) (lenders n owner s.plain (t ∷ ts) s.under.tables) asked (enters (Err (Paused Due)) twin)

  -- it opens a table
  module _ (h progress : ℕ) (own : Bool) (twin : TwinEntry u w t.frame (level_type t.level) t.done owner (Ok (Opened h progress own))) where
    opening : Opens n m w (lent (extra (t ∷ ts)) s.plain) owner l t.frame t.done machine s.describes h progress own asked
    opening = opens n m w (lent (extra (t ∷ ts)) s.plain) owner l t.frame t.done machine s.describes h progress own asked asks (enters (Ok (Opened h progress own)) twin)

    into : OpensTo n m w (extra (t ∷ ts)) s.plain owner l t.frame t.done (t ∷ ts) machine s.describes s.spelled above s.under.frames s.under.tables opening.frame opening.lends progress own opening.way opening.alike
    into = opens_to n m w (extra (t ∷ ts)) s.plain owner l t.frame t.done (t ∷ ts) machine s.describes s.spelled above s.under.frames s.under.tables opening.frame opening.lends progress own opening.way opening.alike

    first : 1 ≤ l
    first = opened_table l progress own (got opening.frame m) opening.frame opening.way

    abbrev inner : TableWork
    inner = table_opened t h progress own false

    inner_of : TableOf n owner into.after inner
    inner_of =
        let g = opening.frame in
        record {
          inside = subst (λ f. f < n.frames) (sym opening.same) (taking n m w (extra (t ∷ ts)) s.plain owner l t.frame t.done (t ∷ ts) machine s.describes s.spelled above s.under.frames s.under.tables g opening.lends).inside;
          share = into.share;
          was = ap into.after.shares opening.same ∙ into.was;
          owns = into.owns;
          some = into.some;
          work = ap into.after.kinds opening.same ∙ into.here;
          low = first;
          high = (let high = table.high in omega arith);
          few = (let e = into.none_done in omega arith);
        }

    others : PlainTables n owner into.after (t ∷ ts)
    unfolding with_one
    others = tables_but n owner s.plain into.after opening.frame into.grown into.but (t ∷ ts) (still_off n owner s.plain opening.frame 0 (t ∷ ts) (inl into.dead) s.under.tables) s.under.tables

    cells_same : (g j : ℕ) → into.after.cells g j ≡ s.plain.cells g j
    unfolding with_one
    cells_same g j = ap (λ (q : Plain). q.cells g j) into.is

    named : IsNamed into.after inner (one_entry_more t)
    named = (omega (arith, level), omega arith, last_is into.after cells_same ∙ (opening.asked ∙ ap (λ g. Typed g (level_type l)) (sym opening.same)))

    goes_on : rest n owner (lefts (inner ∷ one_entry_more t ∷ ts)) into.after ≡ a.outcome
    unfolding with_one
    goes_on =
        let g = opening.frame in
        let one = with_one n m w (extra (t ∷ ts)) s.plain owner l t.frame t.done (t ∷ ts) machine s.describes s.spelled above s.under.frames s.under.tables g opening.lends in
        let took = (taking n m w (extra (t ∷ ts)) s.plain owner l t.frame t.done (t ∷ ts) machine s.describes s.spelled above s.under.frames s.under.tables g opening.lends).takes in
        let none : 512 ≡ 512 - progress = (let e = into.none_done in omega arith) in
        subst (λ q. rest n owner (lefts (inner ∷ one_entry_more t ∷ ts)) q ≡ a.outcome) (sym into.is)
        (subst (λ k. rest n owner (table_left h (l - 1) k ∷ table_left t.frame l (512 - (t.done + 1)) ∷ lefts ts) (with_kind g (work_kind (level_type l) false 0) one) ≡ a.outcome) none
        (subst (λ f. rest n owner (table_left f (l - 1) 512 ∷ table_left t.frame l (512 - (t.done + 1)) ∷ lefts ts) (with_kind g (work_kind (level_type l) false 0) one) ≡ a.outcome) (sym opening.same)
        (opened_from n owner t.frame (l - 1) l t.done g (level_type l) (lefts ts) s.plain one a.outcome (let low = first in omega arith) few s.under.ahead (entry_is ∙ opening.asked) took into.dead)))

    pub opened_carries : Carries u.post.machine owner (told_word w) (table_opened t h progress own false ∷ one_entry_more t ∷ ts) a
    opened_carries =
        record {
          plain = into.after;
          under = record {
            frames = frames_but n owner s.plain into.after opening.frame into.grown into.but (t ∷ ts) (inner ∷ one_entry_more t ∷ ts) (λ g off one. inr one) (inr (inl opening.same)) s.under.frames;
            tables = (
              inner_of,
              (let low = table.low in omega arith, table.high, lower_above l t.level ts (omega arith) s.under.tables.1),
              (table_more n owner into.after t few others.0, others.1, others.2),
            );
            chain = (named, chained_more into.after t ts (chained_cells s.plain into.after (t ∷ ts) cells_same s.under.chain));
            ahead = goes_on;
          };
          describes = described_same n (told_word w) (lent (extra (t ∷ ts)) into.after) (lent (extra (inner ∷ one_entry_more t ∷ ts)) into.after) (lent_same (extra (t ∷ ts)) (extra (inner ∷ one_entry_more t ∷ ts)) into.after (λ g. extra_own inner (one_entry_more t ∷ ts) into.mine g)) into.describes;
          spelled = into.spelled;
          flags = (ap not (sym into.mine), flags_more t ts s.flags);
          mine = λ whole. (into.mine, s.mine whole);
        }

    pub opened_none : progress ≡ 0
    opened_none = into.none_done
