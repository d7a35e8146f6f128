-- The course of a release: what is left to be given back stays the same plain value at each port.
use Rattle.std.proofs.Common.{◌≡◌, ◌⊎◌, inl, inr, Err, ℕ, suc, ◌+◌, ◌-◌, ◌<◌, ◌≤◌, Option, Bool, true, false, List, [], ◌∷◌, Result, Ok, IfOk, refl, sym, ap, ◌∙◌, subst, arith}
use Rattle.xp_words.specs.Machine.{Machine}
use Rattle.xp_words.specs.Entries.{demand_at}
use Rattle.xp_words.specs.declared.reply.Stop.{Stop}
use Rattle.xp_words.specs.declared.reply.Stop.TheVariants.{Refused, Paused}
use Rattle.xp_words.specs.declared.reply.Pause.TheVariants.{Alive, Busy, Due, Flush, Lost}
use Rattle.xp_words.specs.declared.entry.Demand.TheVariants.{Typed}
use Rattle.step_maker.specs.Answers.{Stops}
use Rattle.table_entries.specs.Asking.{of_entries}
use Rattle.table_law.proofs.Counting.{at_here}
use Rattle.level_release.specs.Course.{one_less}
use Rattle.release_laws.proofs.Parking.{parked, parked_goes}
use Rattle.release_laws.proofs.Liking.{IsKept, IsSpent, emptying_spent, kept_closed, kept_demand, kept_kind, kept_release}
use Rattle.xp_words.specs.declared.entry.Demand.{Demand}
use Rattle.xp_board.specs.Told.{Post, PortValue, is_telling, told_word}
use Rattle.step_maker.specs.Moves.{Came}
use Rattle.step_maker.proofs.Coming.{came_post}
use Rattle.step_maker.proofs.Telling.{came_telling}
use Rattle.step_maker.specs.Visits.{Does, Then}
use Rattle.step_maker.proofs.Visiting.{does_came}
use Rattle.frame_words.specs.Freeing.{PutBy}
use Rattle.frame_types.specs.Found.{Dies}
use Rattle.partial_state.proofs.LevelFacts.{level_type-typed}
use Rattle.partial_state.specs.Levels.{level_type}
use Rattle.partial_state.specs.declared.stack.TableWork.{TableWork}
use Rattle.table_law.specs.Levels.{closed, entry_of}
use Rattle.table_law.specs.Plain.{Describes, Plain, with_kind}
use Rattle.table_law.specs.Release.{drop_demand, drop_first, emptying, entries_held, let_go}
use Rattle.table_law.proofs.Undoing.{opened}
use Rattle.table_releases.specs.declared.entries.Released.{Released}
use Rattle.table_releases.specs.declared.entries.Released.TheVariants.{Given, Opened}
use Rattle.level_release.specs.Course as course
use Rattle.level_release.specs.Course.{GaveEntry, Lowered, MadeDead, RanDown, one_more_done, table_under}
use Rattle.release_laws.proofs.Putting.{dead_words}
use Rattle.release_laws.proofs.Entries.{Comes, entry_comes}

-- ---- the tables that are being released, the innermost first
-- the recorded entries of each, and then its frame
unfoldable pub given_back : List TableWork → Plain → Plain
given_back [] p = p
given_back (t ∷ ts) p = given_back ts (closed t.frame (level_type t.level) (drop_first (let_go (t.level - 1)) (level_type t.level) t.frame (512 - t.done) p))

-- each is a table of the machine
abbrev pub AreTables : Machine → List TableWork → Type 0
AreTables n [] = Unit {0}
AreTables n (t ∷ ts) = (1 ≤ t.level) × (t.level ≤ 4) × (t.done ≤ 512) × (t.frame < n.frames) × AreTables n ts

-- each is being released, and no frame stands twice
abbrev pub IsAmong : List TableWork → ℕ → Type 0
IsAmong [] g = ⊥
IsAmong (t ∷ ts) g = (t.frame ≡ g) ⊎ IsAmong ts g

abbrev pub AreSpent : List TableWork → Plain → Type 0
AreSpent [] p = Unit {0}
AreSpent (t ∷ ts) p = IsSpent (p.kinds t.frame) × (IsAmong ts t.frame → ⊥) × AreSpent ts p

-- each is what the entry of the next one asks that was given back last
abbrev pub IsUnder : Plain → TableWork → TableWork → Type 0
IsUnder p t o = (o.level ≡ t.level + 1) × (0 < o.done) × (entry_of p (level_type o.level) o.frame (512 - o.done) ≡ Typed t.frame (level_type t.level))

abbrev pub AreUnder : Plain → List TableWork → Type 0
AreUnder p [] = Unit {0}
AreUnder p (t ∷ []) = Unit {0}
AreUnder p (t ∷ o ∷ ts) = IsUnder p t o × AreUnder p (o ∷ ts)

pub spent_kept : (p q : Plain) (ts : List TableWork) → IsKept p q → AreSpent ts p → AreSpent ts q
spent_kept p q [] kept s = tt
spent_kept p q (t ∷ ts) kept s = (kept.spent t.frame s.0, s.1, spent_kept p q ts kept s.2)

pub under_cells : (p q : Plain) (ts : List TableWork) → ((g i : ℕ) → q.cells g i ≡ p.cells g i) → AreUnder p ts → AreUnder q ts
under_cells p q [] same u = tt
under_cells p q (t ∷ []) same u = tt
under_cells p q (t ∷ o ∷ ts) same u = ((u.0.0, u.0.1, ap (λ w. demand_at (level_type o.level) (512 - o.done) w) (same o.frame (512 - o.done)) ∙ u.0.2), under_cells p q (o ∷ ts) same u.1)

-- the same where the innermost one has another number of entries
pub under_more : (p : Plain) (t : TableWork) (done : ℕ) (ts : List TableWork) → AreUnder p (t ∷ ts) → AreUnder p (record t { done = done } ∷ ts)
under_more p t done [] u = tt
under_more p t done (o ∷ ts) u = u

pub under_rest : (p : Plain) (t : TableWork) (ts : List TableWork) → AreUnder p (t ∷ ts) → AreUnder p ts
under_rest p t [] u = tt
under_rest p t (o ∷ ts) u = u.1

-- a frame that is not being released is none of them
pub unspent_none : (p : Plain) (g : ℕ) (ts : List TableWork) → (IsSpent (p.kinds g) → ⊥) → AreSpent ts p → IsAmong ts g → ⊥
unspent_none p g [] off s among = among
unspent_none p g (t ∷ ts) off s (inl is) = off (subst (λ i. IsSpent (p.kinds i)) is s.0)
unspent_none p g (t ∷ ts) off s (inr among) = unspent_none p g ts off s.2 among

-- the words, and what is left to be given back
pub record Leads (n : Machine) (u : PortValue) (us : List TableWork) (q : Plain) : Type 0 where
  pub machine : u.post.machine ≡ n
  pub telling : is_telling u ≡ true
  pub tables : AreTables n us
  pub plain : Plain
  pub describes : Describes n (told_word u) plain
  pub spent : AreSpent us plain
  pub under : AreUnder plain us
  pub left : given_back us plain ≡ q

-- ---- what is left of the innermost table
module _ (l f : ℕ) (ts : List TableWork) where
  -- its first k entries
  abbrev back : ℕ → Plain → Plain
  back k q = given_back ts (closed f (level_type (suc l)) (drop_first (let_go l) (level_type (suc l)) f k q))

  one_back : (done : ℕ) (p : Plain) → done < 512 → back (512 - done) p ≡ back (511 - done) (drop_demand (let_go l) p (entry_of p (level_type (suc l)) f (511 - done)))
  unfolding drop_first
  one_back done p few = ap (λ k. back k p) (let e : 512 - done ≡ suc (511 - done) = omega arith in e)

  next_back : (done : ℕ) (q : Plain) → done < 512 → back (512 - (done + 1)) q ≡ back (511 - done) q
  next_back done q few = ap (λ k. back k q) (let e : 512 - (done + 1) ≡ 511 - done = omega arith in e)

  none_back : (q : Plain) → back 0 q ≡ given_back ts (closed f (level_type (suc l)) q)
  unfolding drop_first
  none_back q = refl

pub at_level : (t : TableWork) (ts : List TableWork) (l : ℕ) (q : Plain) → t.level ≡ suc l → given_back (t ∷ ts) q ≡ back l t.frame ts (512 - t.done) q
unfolding given_back
at_level t ts l q level =
    ap (λ k. given_back ts (closed t.frame (level_type k) (drop_first (let_go (k - 1)) (level_type k) t.frame (512 - t.done) q))) level
    ∙ ap (λ j. given_back ts (closed t.frame (level_type (suc l)) (drop_first (let_go j) (level_type (suc l)) t.frame (512 - t.done) q))) (let e : suc l - 1 ≡ l = omega arith in e)

-- ---- one step of the loop
module _ (n : Machine) (u w : PortValue) (q : Plain) where
  module _ (t : TableWork) (ts : List TableWork) (l : ℕ) (level : t.level ≡ suc l) (few : t.done < 512) (answer : Result Released Stop) (a : GaveEntry u w t answer) (s : Leads n u (t ∷ ts) q) where
    came : Came u w
    came = does_came u w _ a.entry.found

    asked : Demand
    asked = entry_of s.plain (level_type (suc l)) t.frame (511 - t.done)

    entry_is : Comes n l s.plain w asked answer
    unfolding asked
    entry_is =
        let e = subst (λ k. GaveEntry u w (record t { level = k }) answer) level a in
        let d = subst (λ k. Describes k (told_word u) s.plain) (sym s.machine) s.describes in
        subst (λ k. Comes k l s.plain w (entry_of s.plain (level_type (suc l)) t.frame (511 - t.done)) answer) s.machine
        (entry_comes u w s.plain t.frame (511 - t.done) l answer s.telling d (subst (λ (k : Machine). t.frame < k.frames) (sym s.machine) s.tables.3) (omega arith)
        (let high = s.tables.1 in omega arith) e.entry.found e.entry.plain)

    machine_on : w.post.machine ≡ n
    machine_on = ap (λ (x : Post). x.machine) (came_post u w came) ∙ s.machine

    telling_on : is_telling w ≡ true
    telling_on = came_telling u w came ∙ s.telling

    -- the rest, behind what the entry asks
    rest_left : (p : Plain) → back l t.frame ts (511 - t.done) (drop_demand (let_go l) s.plain asked) ≡ q
    unfolding asked
    rest_left p = sym (one_back l t.frame ts t.done s.plain few) ∙ sym (at_level t ts l s.plain level) ∙ s.left

  -- an entry is given back
  given_leads : (t : TableWork) (ts : List TableWork) (l : ℕ) → t.level ≡ suc l → t.done < 512 → GaveEntry u w t (Ok Given) → Leads n u (t ∷ ts) q → Leads n w (one_more_done t ∷ ts) q
  given_leads t ts l level few a s =
      let after = drop_demand (let_go l) s.plain (asked t ts l level few (Ok Given) a s) in
      record {
        machine = machine_on t ts l level few (Ok Given) a s;
        telling = telling_on t ts l level few (Ok Given) a s;
        tables = (s.tables.0, s.tables.1, omega arith, s.tables.3, s.tables.4);
        plain = after;
        describes = entry_is t ts l level few (Ok Given) a s;
        spent = spent_kept s.plain after (t ∷ ts) (kept_demand (let_go l) (kept_release l) s.plain (asked t ts l level few (Ok Given) a s)) s.spent;
        under = under_more after t (t.done + 1) ts (under_cells s.plain after (t ∷ ts) (kept_demand (let_go l) (kept_release l) s.plain (asked t ts l level few (Ok Given) a s)).cells s.under);
        left = at_level (one_more_done t) ts l after level ∙ next_back l t.frame ts t.done after few ∙ rest_left t ts l level few (Ok Given) a s after;
      }

  -- a table that it names is opened
  opened_leads : (t : TableWork) (ts : List TableWork) (l g k : ℕ) (closing : Bool) → t.level ≡ suc l → t.done < 512 → GaveEntry u w t (Ok (Opened g k closing)) → Leads n u (t ∷ ts) q →
      Leads n w (table_under t g k closing ∷ one_more_done t ∷ ts) q
  unfolding given_back asked
  opened_leads t ts l g k closing level few a s =
      let r = Ok (Opened g k closing) in
      let o = entry_is t ts l level few r a s in
      let high = s.tables.1 in
      let table = o.table in
      let low : suc (l - 1) ≡ l = omega arith in
      let under : t.level - 1 ≡ suc (l - 1) = omega arith in
      let some = o.few in
      let p = s.plain in
      let inner = with_kind g (emptying (p.kinds g)) p in
      let kept : IsKept p inner = kept_kind g (emptying (p.kinds g)) p (λ x. emptying_spent (p.kinds g)) in
      let last_at : 512 - (t.done + 1) ≡ 511 - t.done = omega arith in
      let same_level : t.level - 1 ≡ l = omega arith in
      let named : entry_of inner (level_type t.level) t.frame (512 - (t.done + 1)) ≡ Typed g (level_type (t.level - 1)) =
      ap (λ k. entry_of inner (level_type k) t.frame (512 - (t.done + 1))) level ∙ (ap (λ i. entry_of inner (level_type (suc l)) t.frame i) last_at ∙ (o.asks ∙ ap (λ k. Typed g (level_type k)) (sym same_level))) in
      let count : 512 - (512 - k) ≡ entries_held (p.kinds g) = (let e = o.held in omega arith) in
      let whole : let_go l g p ≡ closed g (level_type (suc (l - 1))) (drop_first (let_go (l - 1)) (level_type (suc (l - 1))) g (entries_held (p.kinds g)) inner) = subst (λ j. let_go j g p ≡ closed g (level_type (suc (l - 1))) (drop_first (let_go (l - 1)) (level_type (suc (l - 1))) g (entries_held (p.kinds g)) inner)) low (opened (l - 1) g p o.last o.bare) in
      record {
        machine = machine_on t ts l level few r a s;
        telling = telling_on t ts l level few r a s;
        tables = (omega arith, omega arith, omega arith, o.inside, (s.tables.0, s.tables.1, omega arith, s.tables.3, s.tables.4));
        plain = inner;
        describes = o.describes;
        spent = (subst IsSpent (sym (at_here g (emptying (p.kinds g)) p.kinds)) (emptying_spent (p.kinds g)), unspent_none p g (t ∷ ts) o.unspent s.spent, spent_kept p inner (t ∷ ts) kept s.spent);
        under = ((omega arith, omega arith, named), under_more inner t (t.done + 1) ts (under_cells p inner (t ∷ ts) kept.cells s.under));
        left = at_level (table_under t g k closing) (one_more_done t ∷ ts) (l - 1) inner under
            ∙ ap (λ j. given_back (one_more_done t ∷ ts) (closed g (level_type (suc (l - 1))) (drop_first (let_go (l - 1)) (level_type (suc (l - 1))) g j inner))) count
            ∙ ap (given_back (one_more_done t ∷ ts)) (sym whole)
            ∙ at_level (one_more_done t) ts l (let_go l g p) level ∙ next_back l t.frame ts t.done (let_go l g p) few
            ∙ ap (λ d. back l t.frame ts (511 - t.done) (drop_demand (let_go l) p d)) (sym o.asks)
            ∙ rest_left t ts l level few r a s p;
      }

  -- a table without recorded entries is dead
  emptied_leads : (t : TableWork) (ts : List TableWork) (l : ℕ) → t.level ≡ suc l → t.done ≡ 512 → MadeDead u w t → Leads n u (t ∷ ts) q → Leads n w ts q
  emptied_leads t ts l level full a s =
      let came = does_came u w _ a.found in
      let none : 512 - t.done ≡ 0 = omega arith in
      record {
        machine = ap (λ (x : Post). x.machine) (came_post u w came) ∙ s.machine;
        telling = came_telling u w came ∙ s.telling;
        tables = s.tables.4;
        plain = closed t.frame (level_type (suc l)) s.plain;
        spent = spent_kept s.plain (closed t.frame (level_type (suc l)) s.plain) ts (kept_closed t.frame (level_type (suc l)) s.plain) s.spent.2;
        under = under_cells s.plain (closed t.frame (level_type (suc l)) s.plain) ts (kept_closed t.frame (level_type (suc l)) s.plain).cells (under_rest s.plain t ts s.under);
        describes = dead_words n u w s.plain t.frame (level_type (suc l)) s.machine s.telling s.describes s.tables.3 (level_type-typed (suc l))
            (subst (λ k. Does u w (λ vs. Then (Dies t.frame (level_type k) false) (PutBy t.frame) vs)) level a.found);
        left = sym (none_back l t.frame ts s.plain) ∙ ap (λ k. back l t.frame ts k s.plain) (sym none) ∙ sym (at_level t ts l s.plain level) ∙ s.left;
      }

pub above_none : (l : ℕ) → 1 ≤ l → l ≡ suc (l - 1)
above_none l some = omega arith

lowered_leads : (n : Machine) (q : Plain) (u : PortValue) (us : List TableWork) (w : PortValue) (xs : List TableWork) (answer : Result Bool Stop) → Lowered u us w xs answer → Leads n u us q → IfOk answer (λ done. Leads n w xs q)
lowered_leads n q _ _ _ _ _ (course.given u w t ts few a) s = given_leads n u w q t ts (t.level - 1) (above_none t.level s.tables.0) few a s
lowered_leads n q _ _ _ _ _ (course.opened u w t ts g k closing few a) s = opened_leads n u w q t ts (t.level - 1) g k closing (above_none t.level s.tables.0) few a s
lowered_leads n q _ _ _ _ _ (course.stopped u w t ts stop few a) s = tt
lowered_leads n q _ _ _ _ _ (course.emptied u w t ts full a) s = emptied_leads n u w q t ts (t.level - 1) (above_none t.level s.tables.0) full a s

-- ---- the whole loop
-- done, or paused by the gate: the rest is left
abbrev pub RanTo : Machine → Plain → PortValue → List TableWork → Result (Unit {0}) Stop → Type 0
RanTo n q w xs (Ok done) = Leads n w xs q
RanTo n q w xs (Err (Paused Due)) = Leads n w xs q
RanTo n q w xs (Err e) = Unit {0}

abbrev pub IsNotDue : Stop → Type 0
IsNotDue (Paused Due) = ⊥
IsNotDue e = Unit {0}

not_due : (n : Machine) (q : Plain) (w : PortValue) (xs : List TableWork) (e : Stop) → IsNotDue e → RanTo n q w xs (Err e)
not_due n q w xs (Refused x) off = tt
not_due n q w xs (Paused Due) off = absurd off
not_due n q w xs (Paused (Lost x y z)) off = tt
not_due n q w xs (Paused (Busy f x)) off = tt
not_due n q w xs (Paused (Flush x y z)) off = tt
not_due n q w xs (Paused (Alive x y)) off = tt

-- no entry is paused by the gate
never_due : (u w : PortValue) → Stops u w (of_entries 0 0) (Paused Due) → ⊥
unfolding Stops
never_due u w s = cc

entry_not_due : (u w : PortValue) (t : TableWork) (stop : Stop) → GaveEntry u w t (Err stop) → IsNotDue stop
entry_not_due u w t (Refused x) a = tt
entry_not_due u w t (Paused Due) a = absurd (never_due u w (a.entry.stops 0 0))
entry_not_due u w t (Paused (Lost x y z)) a = tt
entry_not_due u w t (Paused (Busy f x)) a = tt
entry_not_due u w t (Paused (Flush x y z)) a = tt
entry_not_due u w t (Paused (Alive x y)) a = tt

pub lower_not_due : (u : PortValue) (us : List TableWork) (w : PortValue) (xs : List TableWork) (stop : Stop) → Lowered u us w xs (Err stop) → IsNotDue stop
lower_not_due _ _ _ _ _ (course.stopped u w t ts stop few a) = entry_not_due u w t stop a

pub ran_leads : {below : Option ℕ} → (n : Machine) (q : Plain) (v : PortValue) (ts : List TableWork) (w : PortValue) (xs : List TableWork) (answers : List Bool) (answer : Result (Unit {0}) Stop) → RanDown below v ts w xs answers answer → Leads n v ts q →
    RanTo n q w xs answer
ran_leads n q v ts _ _ _ _ course.begun s = s
ran_leads n q v ts _ _ _ _ (course.unasked u w us xs done answers before step off) s = lowered_leads n q u us w xs (Ok done) step (ran_leads n q v ts u us answers (Ok tt) before s)
ran_leads n q v ts _ _ _ _ (course.asked u w us xs answers before step on) s = lowered_leads n q u us w xs (Ok true) step (ran_leads n q v ts u us answers (Ok tt) before s)
ran_leads n q v ts _ _ _ _ (course.due u w us xs answers before step on) s = lowered_leads n q u us w xs (Ok true) step (ran_leads n q v ts u us answers (Ok tt) before s)
ran_leads n q v ts _ _ _ _ (course.stopped u w us xs answers stop before step) s = not_due n q w xs stop (lower_not_due u us w xs stop step)

-- ---- a table that a pause parks: the entry that named it is recorded again, and gives back the same
pub parked_back : (t o : TableWork) (ts : List TableWork) (l : ℕ) (p : Plain) → t.level ≡ suc l → t.done ≤ 512 → o.done ≤ 512 → IsSpent (p.kinds t.frame) → IsUnder p t o →
    given_back (one_less o ∷ ts) (parked l t.frame (512 - t.done) p) ≡ given_back (t ∷ o ∷ ts) p
unfolding given_back drop_first
parked_back t o ts l p level few less spent under =
    let p1 = parked l t.frame (512 - t.done) p in
    let inner = closed t.frame (level_type (suc l)) (drop_first (let_go l) (level_type (suc l)) t.frame (512 - t.done) p) in
    let high : o.level ≡ suc (suc l) = (let e = under.0 in omega arith) in
    let some = under.1 in
    let count : 512 - (o.done - 1) ≡ suc (512 - o.done) = omega arith in
    let asks : entry_of p1 (level_type (suc (suc l))) o.frame (512 - o.done) ≡ Typed t.frame (level_type t.level) = ap (λ k. entry_of p (level_type k) o.frame (512 - o.done)) (sym high) ∙ under.2 in
    at_level (one_less o) ts (suc l) p1 high
    ∙ (ap (λ k. back (suc l) o.frame ts k p1) count
    ∙ (ap (λ d. back (suc l) o.frame ts (512 - o.done) (drop_demand (let_go (suc l)) p1 d)) asks
    ∙ (ap (λ q. back (suc l) o.frame ts (512 - o.done) q) (parked_goes l t.frame (512 - t.done) p spent)
    ∙ (sym (at_level o ts (suc l) inner high) ∙ sym (at_level t (o ∷ ts) l p level)))))

-- the only one
pub parked_last : (t : TableWork) (l : ℕ) (p : Plain) → t.level ≡ suc l → IsSpent (p.kinds t.frame) → let_go t.level t.frame (parked l t.frame (512 - t.done) p) ≡ given_back (t ∷ []) p
unfolding given_back
parked_last t l p level spent = ap (λ k. let_go k t.frame (parked l t.frame (512 - t.done) p)) level ∙ (parked_goes l t.frame (512 - t.done) p spent ∙ sym (at_level t [] l p level))
