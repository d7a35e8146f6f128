-- The loads by which an update by address finds its table.
use Rattle.std.proofs.Common.{◌≡◌, ◌≢◌, ℕ, zero, suc, ◌+◌, ◌-◌, ◌<◌, ◌≤◌, if◌then◌else◌, true, false, None, Result, Ok, Err, refl, sym, ap, ◌∙◌, subst, inl, inr, arith}
use Rattle.xp_words.specs.Entries.{frame_of}
use Rattle.xp_words.specs.Machine.{Machine}
use Rattle.xp_words.specs.declared.place.Place.TheVariants.{Cell, Vcpu}
use Rattle.xp_words.specs.declared.reply.Refusal.{Refusal}
use Rattle.xp_words.specs.declared.reply.Refusal.TheVariants.{NotMapped}
use Rattle.xp_words.specs.declared.reply.Stop.{Stop}
use Rattle.xp_words.specs.declared.reply.Stop.TheVariants.{Refused, Paused}
use Rattle.xp_board.specs.Hands.{IsEmptyHand}
use Rattle.xp_board.specs.declared.holdings.Claimed.{Claimed}
use Rattle.xp_board.specs.declared.holdings.Lock.{Lock}
use Rattle.xp_board.specs.declared.holdings.Work.{Work}
use Rattle.xp_board.specs.declared.step.Act.TheVariants.{Load}
use Rattle.xp_board.specs.declared.step.StepKind.TheVariants as kinds
use Rattle.xp_board.specs.Told.{Post, PortValue, is_telling, told_word}
use Rattle.step_maker.specs.Licences.{is_unmapped}
use Rattle.step_maker.proofs.Coming.{came_post, moves_came}
use Rattle.step_maker.proofs.Resting.{none_on}
use Rattle.step_maker.proofs.Telling.{load_tells, moves_telling, told_there}
use Rattle.course_laws.proofs.Awaiting.{AloneStays}
use Rattle.answer_laws.proofs.Shared.{alone_telling}
use Rattle.replay_laws.specs.Replays.{SameWords}
use Rattle.frame_words.specs.Cells.{IsApart}
use Rattle.frame_words.proofs.CellSteps.{look_apart}
use Rattle.tlb_walks.specs.Addresses.{index_of, walk_refusal}
use Rattle.tlb_walks.proofs.Descending.{mapped_inside}
use Rattle.entry_exchange.specs.Course.{SawEntry}
use Rattle.mmu_update.specs.Addresses as ways
use Rattle.mmu_update.specs.Addresses.{Descends, SawBase}
use Rattle.mmu_update.proofs.Leading.{base_same, leads_came}
use Rattle.table_law.specs.Plain.{Plain}
use Rattle.script_law.specs.Values.{Solo}
use Rattle.script_law.specs.Walks.{last_table, next_table, table_at}
use Rattle.solo_ports.specs.Standing.{Clean}
use Rattle.solo_accesses.specs.Walking.{LoadsCome}
use Rattle.solo_accesses.proofs.Cells.{CellsOf, cells_same, only_same}
use Rattle.solo_accesses.proofs.Keeping.{clean_cells}
use Rattle.solo_accesses.proofs.Reading.{shown_top}
use Rattle.solo_accesses.proofs.Resting.{same_empty}
use Rattle.solo_accesses.proofs.Ways.{index_few}
use Rattle.solo_accesses.proofs.Whole.{top_few}

-- ---- looks leave an empty hand empty
apart : (v : PortValue) (f : ℕ) → IsEmptyHand v.holdings → IsApart f v.holdings
apart v f empty =
    record {
      works = none_on (λ (y : Work). y.frame) f v.holdings.works empty.works;
      locks = none_on (λ (y : Lock). y.frame) f v.holdings.locks empty.locks;
      claimed = none_on (λ (y : Claimed). y.frame) f v.holdings.claimed empty.claimed;
    }

saw_empty : (v w : PortValue) (f i x : ℕ) → IsEmptyHand v.holdings → SawEntry v w f i x → IsEmptyHand w.holdings
saw_empty v w f i x empty m = same_empty v w (look_apart v w f i x m (apart v f empty)) empty

base_empty : (v w : PortValue) (base : ℕ) → IsEmptyHand v.holdings → SawBase v w base → IsEmptyHand w.holdings
base_empty v w base empty m = same_empty v w (base_same v w v.post.vcpu base refl m) empty

-- ---- from a table down
-- it ends as the plain loads, which lead to a frame of the machine
abbrev pub LoadedAs : Machine → Result ℕ Stop → Result ℕ Refusal → Type 0
LoadedAs n (Ok f) r = (r ≡ Ok f) × (f < n.frames)
LoadedAs n (Err (Refused y)) r = r ≡ Err y
LoadedAs n (Err (Paused p)) r = ⊥

-- and leaves all words, and an empty hand
pub record Loaded (n : Machine) (v w : PortValue) (answer : Result ℕ Stop) (r : Result ℕ Refusal) : Type 0 where
  pub as_plain : LoadedAs n answer r
  pub same : SameWords (told_word v) (told_word w)
  pub empty : IsEmptyHand w.holdings

module _ (n : Machine) (va : ℕ) (p : Plain) where
  none_next : (l e : ℕ) → is_unmapped n e ≡ true → next_table n (last_table n va p l) (l + 2) e ≡ Err (NotMapped (l + 2) e)
  none_next l e off = ap (λ b. if b then Err (NotMapped (l + 2) e) else last_table n va p l (frame_of e)) off

  some_next : (l e : ℕ) → is_unmapped n e ≡ false → next_table n (last_table n va p l) (l + 2) e ≡ last_table n va p l (frame_of e)
  some_next l e on = ap (λ b. if b then Err (NotMapped (l + 2) e) else last_table n va p l (frame_of e)) on

  -- one entry
  module _ (v u : PortValue) (l level table e : ℕ) (is : level ≡ l + 2) (machine : v.post.machine ≡ n) (telling : is_telling v ≡ true) (cells : CellsOf n (told_word v) p) (inside : table < n.frames)
      (saw : SawEntry v u table (index_of va level) e) where
    entry_is : p.cells table (index_of va (l + 2)) ≡ e
    entry_is =
        cells table (index_of va (l + 2)) inside (index_few va (l + 2)) ∙ ap (λ k. told_word v (Cell table (index_of va k))) (sym is)
        ∙ told_there v u (Cell table (index_of va level)) Load kinds.Look None e saw telling

    step_table : last_table n va p (suc l) table ≡ next_table n (last_table n va p l) (l + 2) e
    unfolding last_table
    step_table = ap (next_table n (last_table n va p l) (l + 2)) entry_is

    unmapped_table : is_unmapped v.post.machine e ≡ true → last_table n va p (suc l) table ≡ Err (NotMapped level e)
    unmapped_table off = step_table ∙ none_next l e (subst (λ k. is_unmapped k e ≡ true) machine off) ∙ ap (λ k. Err (NotMapped k e)) (sym is)

    mapped_table : is_unmapped v.post.machine e ≡ false → last_table n va p (suc l) table ≡ last_table n va p l (frame_of e)
    mapped_table on = step_table ∙ some_next l e (subst (λ k. is_unmapped k e ≡ false) machine on)

    below_inside : is_unmapped v.post.machine e ≡ false → frame_of e < n.frames
    below_inside on = mapped_inside n e (subst (λ k. is_unmapped k e ≡ false) machine on)

    same_words : SameWords (told_word v) (told_word u)
    same_words q = load_tells v u (Cell table (index_of va level)) kinds.Look None e saw telling q

  last_zero : (table : ℕ) → last_table n va p zero table ≡ Ok table
  unfolding last_table
  last_zero table = refl

  pub loads_down : (w : PortValue) (answer : Result ℕ Stop) (v : PortValue) (level table : ℕ) → Descends va w answer v level table → (l : ℕ) → level ≡ l + 2 → v.post.machine ≡ n → is_telling v ≡ true →
      CellsOf n (told_word v) p → IsEmptyHand v.holdings → table < n.frames → Loaded n v w answer (last_table n va p (suc l) table)
  loads_down w answer v level table (ways.unmapped _ _ _ e saw off at) l is machine telling cells empty inside =
      record {
        as_plain = subst (λ a. LoadedAs n a (last_table n va p (suc l) table)) (sym at) (unmapped_table v w l level table e is machine telling cells inside saw off);
        same = same_words v w l level table e is machine telling cells inside saw;
        empty = saw_empty v w table (index_of va level) e empty saw;
      }
  loads_down w answer v level table (ways.reached _ _ _ e two saw on at) l is machine telling cells empty inside =
      let none : l ≡ 0 = omega arith in
      let end : last_table n va p (suc l) table ≡ Ok (frame_of e) = mapped_table v w l level table e is machine telling cells inside saw on ∙ ap (λ k. last_table n va p k (frame_of e)) none ∙ last_zero (frame_of e) in
      record {
        as_plain = subst (λ a. LoadedAs n a (last_table n va p (suc l) table)) (sym at) (end, below_inside v w l level table e is machine telling cells inside saw on);
        same = same_words v w l level table e is machine telling cells inside saw;
        empty = saw_empty v w table (index_of va level) e empty saw;
      }
  loads_down w answer v level table (ways.goes _ u _ _ e more saw on rest) zero is machine telling cells empty inside = absurd (omega arith)
  loads_down w answer v level table (ways.goes _ u _ _ e more saw on rest) (suc l) is machine telling cells empty inside =
      let same = same_words v u (suc l) level table e is machine telling cells inside saw in
      let down : level - 1 ≡ l + 2 = omega arith in
      let next = loads_down w answer u (level - 1) (frame_of e) rest l down (ap (λ (o : Post). o.machine) (came_post v u (moves_came v u _ _ _ _ _ saw)) ∙ machine) (moves_telling v u _ _ _ _ _ saw ∙ telling)
      (cells_same n (told_word v) (told_word u) p same cells) (saw_empty v u table (index_of va level) e empty saw) (below_inside v u (suc l) level table e is machine telling cells inside saw on) in
      record {
        as_plain = subst (λ r. LoadedAs n answer r) (sym (mapped_table v u (suc l) level table e is machine telling cells inside saw on)) next.as_plain;
        same = λ q. next.same q ∙ same q;
        empty = next.empty;
      }

-- ---- the whole way
module _ (stays : AloneStays) (v w : PortValue) (x : Solo) (va : ℕ) (clean : Clean v x) where
  base_is : x.own 0 ≡ told_word v (Vcpu v.post.vcpu 0)
  base_is = clean.stands.others.own 0 (shown_top false)

  telling : is_telling v ≡ true
  telling = alone_telling v clean.stands.alone

  base_found : (u : PortValue) (base : ℕ) → SawBase v u base → x.own 0 ≡ base
  base_found u base saw = base_is ∙ told_there v u (Vcpu v.post.vcpu 0) Load kinds.Look None base saw telling

  abbrev table_of : Result ℕ Refusal
  table_of = table_at v.post.machine va x (x.own 0)

  table_is : (base : ℕ) → base ≢ 0 → x.own 0 ≡ base → table_of ≡ last_table v.post.machine va x.frames 3 (base - 1)
  table_is zero some is = absurd (some refl)
  table_is (suc t) some is =
      let one : suc t - 1 ≡ t = omega arith in ap (table_at v.post.machine va x) is ∙ ap (last_table v.post.machine va x.frames 3) (sym one)

  base_inside : (base : ℕ) → base ≢ 0 → x.own 0 ≡ base → base - 1 < v.post.machine.frames
  base_inside base some is =
      let few : base ≤ v.post.machine.frames = subst (λ k. k ≤ v.post.machine.frames) (sym base_is ∙ is) (top_few v v.post.vcpu false clean.stands.alone) in
      below base some few
    where
      below : (k : ℕ) → k ≢ 0 → k ≤ v.post.machine.frames → k - 1 < v.post.machine.frames
      below zero some few = absurd (some refl)
      below (suc k) some few = omega arith

  behind_base : (u : PortValue) (base : ℕ) (answer : Result ℕ Stop) → base ≢ 0 → SawBase v u base → Descends va w answer u 4 (base - 1) → Loaded v.post.machine v w answer table_of
  behind_base u base answer some saw path =
      let is = base_found u base saw in
      let same : SameWords (told_word v) (told_word u) = λ q. load_tells v u (Vcpu v.post.vcpu 0) kinds.Look None base saw telling q in
      let a = loads_down v.post.machine va x.frames w answer u 4 (base - 1) path 2 refl (ap (λ (o : Post). o.machine) (came_post v u (moves_came v u _ _ _ _ _ saw))) (moves_telling v u _ _ _ _ _ saw ∙ telling)
      (cells_same v.post.machine (told_word v) (told_word u) x.frames same clean.frames.cells) (base_empty v u base clean.stands.empty saw) (base_inside base some is) in
      record { as_plain = subst (λ r. LoadedAs v.post.machine answer r) (sym (table_is base some is)) a.as_plain; same = λ q. a.same q ∙ same q; empty = a.empty }

  no_base : SawBase v w 0 → Loaded v.post.machine v w (Err (Refused (NotMapped 5 0))) table_of
  no_base saw =
      record {
        as_plain = ap (table_at v.post.machine va x) (base_found w 0 saw);
        same = λ q. load_tells v w (Vcpu v.post.vcpu 0) kinds.Look None 0 saw telling q;
        empty = base_empty v w 0 clean.stands.empty saw;
      }

  loads_free : (answer : Result ℕ Stop) → walk_refusal va ≡ None → LoadedAs v.post.machine answer table_of → LoadsCome v.post.machine va x answer
  loads_free (Ok f) free a = (free, a.0, a.1)
  loads_free (Err (Refused y)) free a = inr (free, a)
  loads_free (Err (Paused y)) free a = absurd a

  -- all words stand, and so does the plain value
  clean_behind : (answer : Result ℕ Stop) → ways.Leads v va w answer → SameWords (told_word v) (told_word w) → IsEmptyHand w.holdings → Clean w x
  clean_behind answer leads same empty =
      clean_cells stays v w x x.frames clean (leads_came v w va answer leads) empty (only_same (told_word v) (told_word w) same) (record { shares = refl; kinds = refl }) (cells_same v.post.machine (told_word v) (told_word w) x.frames same clean.frames.cells)

  pub loads_come : (answer : Result ℕ Stop) → ways.Leads v va w answer → LoadsCome v.post.machine va x answer × Clean w x
  loads_come answer (ways.barred y why stay is) = (subst (λ a. LoadsCome v.post.machine va x a) (sym is) (inl why), subst (λ q. Clean q x) (sym stay) clean)
  loads_come answer (ways.unbased free saw is) =
      let a = no_base saw in
      (subst (λ a. LoadsCome v.post.machine va x a) (sym is) (loads_free (Err (Refused (NotMapped 5 0))) free a.as_plain), clean_behind answer (ways.unbased free saw is) a.same a.empty)
  loads_come answer (ways.based u base free some saw path) =
      let a = behind_base u base answer some saw path in
      (loads_free answer free a.as_plain, clean_behind answer (ways.based u base free some saw path) a.same a.empty)
