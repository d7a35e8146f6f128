-- The course of an acquisition, link by link: its steps fit, and what is said of the tables in work lasts.
use Rattle.std.proofs.Common.{◌≡◌, ℕ, ◌+◌, ◌-◌, ◌^◌, ◌<◌, ◌||◌, Bool, true, false, List, [], ◌∷◌, Result, refl, sym, subst, arith, inl, inr, if◌then◌else◌}
use Rattle.xp_words.specs.Entries.{demand_at}
use Rattle.xp_words.specs.declared.kind.PageType.{PageType}
use Rattle.xp_words.specs.declared.reply.Stop.{Stop}
use Rattle.xp_board.specs.declared.holdings.Holdings.{Holdings}
use Rattle.xp_board.specs.Told.{PortValue}
use Rattle.frame_words.specs.Freeing.{PutBy}
use Rattle.frame_words.specs.Refs.{GetsBy}
use Rattle.kind_words.specs.Kinds.{live_kind, partial_kind}
use Rattle.frame_types.specs.Found.{SharedBy, StoresKind, TypeBy}
use Rattle.frame_types.specs.declared.taking.Taken.{Taken}
use Rattle.partial_state.specs.Levels.{level_type}
use Rattle.partial_state.specs.declared.stack.TableWork.{TableWork}
use Rattle.table_entries.specs.Found.{EntersBy, ResumesBy}
use Rattle.table_entries.specs.Tops.{WorksAtTop}
use Rattle.table_entries.specs.declared.entries.Entered.{Entered}
use Rattle.table_entries.specs.declared.resuming.Resumed.{Resumed}
use Rattle.table_entries.proofs.PiecesAsking.{top_here}
use Rattle.table_entries.specs.Acquiring.{Acquired, Advanced, Filled, GaveBack, GaveRef, GotRef, InnerLeft, Joined, LeftPartial, LeftWaiting, MadeLive, OutermostLeft, ResumedEntry, TookEntry, TookOn, TookType, Unwound, WaitingLeft, Worked, around_left, asked, begun, completed, cut_off, due, filled, finished, fresh, counted, keeps_it, one_entry_more, opened, recorded, settled, stopped, taken, type_counts, unasked, unfinished, unreferred, unsettled, untyped, waiting}
use Rattle.table_entries.specs.Ending.{is_paused_answer}
use Rattle.acquisition_laws.specs.Forward.{IsAtEnd}
use Rattle.acquisition_laws.proofs.Lows.{entered_low, resumed_low, type_low}
use Rattle.acquisition_laws.proofs.Steps.{Goes, goes_behind, goes_by, goes_nothing, goes_step, goes_then, kept_goes, store_plain}
use Rattle.acquisition_laws.proofs.Visits.{enters_plain, gets_plain, marked_plain, put_plain, resumes_plain, shared_plain, type_plain}

-- f is the frame of the outermost table in work, and how many entries are done with has its place in a kind word
abbrev Stands : ℕ → List TableWork → Type 0
Stands f [] = Unit {0}
Stands f (t ∷ []) = (t.done < 2 ^ 10) × (t.frame ≡ f)
Stands f (t ∷ u ∷ us) = (t.done < 2 ^ 10) × Stands f (u ∷ us)

module _ (f : ℕ) where
  with_done : (t : TableWork) (ts : List TableWork) (n : ℕ) → n < 2 ^ 10 → Stands f (t ∷ ts) → Stands f (record t { done = n } ∷ ts)
  with_done t [] n low s = (low, s.1)
  with_done t (u ∷ us) n low s = (low, s.1)

  low_on_top : (t : TableWork) (ts : List TableWork) → Stands f (t ∷ ts) → t.done < 2 ^ 10
  low_on_top t [] s = s.0
  low_on_top t (u ∷ us) s = s.0

  one_more : (t : TableWork) (ts : List TableWork) → t.done < 512 → Stands f (t ∷ ts) → Stands f (one_entry_more t ∷ ts)
  one_more t ts few s = with_done t ts (t.done + 1) (omega (arith, few)) s

  around_by : (b : Bool) (u : TableWork) (us : List TableWork) → Stands f (u ∷ us) → Stands f ((if b then u else record u { done = u.done - 1 }) ∷ us)
  around_by true u us s = s
  around_by false u us s = with_done u us (u.done - 1) (let low = low_on_top u us s in omega (arith, low)) s

pub counts_low : (own : Bool) → type_counts own < 2 ^ 36
counts_low true = omega arith
counts_low false = omega arith

-- the entry that is looked at is the next one, or the last recorded one
at_next : {g n : ℕ} {k : PageType} {h : Holdings} → WorksAtTop g k n h → IsAtEnd h g n
at_next {g} {n} {k} {h} a = record { work = a.top; here = top_here g n k h a; at_end = inl (sym a.recorded) }

at_last : {g n : ℕ} {k : PageType} {h : Holdings} → 0 < n → WorksAtTop g k n h → IsAtEnd h g (n - 1)
at_last {g} {n} {k} {h} some a = record { work = a.top; here = top_here g n k h a; at_end = inr (let is = a.recorded in omega (arith, is, some)) }

module _ {kept : Bool} {f : ℕ} where
  -- ---- one call each
  got_goes : {v w : PortValue} {g owner : ℕ} {answer : Result ℕ Stop} → GotRef v w g owner answer → Goes kept f v w
  got_goes {v} {w} {g} {owner} {answer} a = goes_by (λ vs. GetsBy v.post.machine g owner answer vs) (gets_plain v.post.machine g owner answer) a.found

  gave_goes : {v w : PortValue} {g : ℕ} → GaveRef v w g → Goes kept f v w
  gave_goes {v} {w} {g} a = goes_by (PutBy g) put_plain a.found

  type_goes : {v w : PortValue} {g owner level : ℕ} {answer : Result Taken Stop} → TookType v w g owner level answer → Goes kept f v w
  type_goes {v} {w} {g} {owner} {level} {answer} a = goes_by (λ vs. TypeBy v.post g owner (level_type level) answer vs) (type_plain v.post g owner (level_type level) answer) a.found

  entry_goes : {v w : PortValue} {owner : ℕ} {t : TableWork} {answer : Result Entered Stop} → TookEntry v w owner t answer → Goes kept f v w
  entry_goes {v} {w} {owner} {t} {answer} a =
      goes_behind t.frame t.done (λ word vs. EntersBy v.post t.frame t.done owner answer word (demand_at (level_type t.level) t.done word) vs) (at_next a.top)
      (λ word. enters_plain v.post t.frame t.done owner answer word (demand_at (level_type t.level) t.done word)) a.found

  again_goes : {v w : PortValue} {owner : ℕ} {t : TableWork} {answer : Result Resumed Stop} → 0 < t.done → ResumedEntry v w owner t answer → Goes kept f v w
  again_goes {v} {w} {owner} {t} {answer} some a =
      goes_behind t.frame (t.done - 1) (λ word vs. ResumesBy v.post owner answer (demand_at (level_type t.level) (t.done - 1) word) vs) (at_last some a.top)
      (λ word. resumes_plain v.post owner answer (demand_at (level_type t.level) (t.done - 1) word)) a.found

  back_goes : {v w : PortValue} {g : ℕ} → GaveBack v w g → Goes kept f v w
  back_goes a = goes_then (goes_step refl a.lowers.lowers.step) (gave_goes a.puts)

  shared_goes : {v w : PortValue} (g level stamp : ℕ) → stamp < 2 ^ 36 → LeftWaiting v w g level stamp → Goes kept f v w
  shared_goes g level stamp small a = goes_by (λ vs. SharedBy g (level_type level) stamp vs) (shared_plain g (level_type level) stamp small) a.found

  live_goes : {v w : PortValue} (t : TableWork) → MadeLive v w t → Goes kept f v w
  live_goes t a = goes_step (store_plain t.frame (live_kind (level_type t.level) (type_counts t.own)) (counts_low t.own) (omega arith) refl) a.1

  joined_goes : {v w : PortValue} (t outer : TableWork) (b : Bool) → Joined v w t outer b → Goes kept f v w
  joined_goes t outer true a = back_goes a
  joined_goes t outer false a = goes_step refl a.1

  partial_goes : {v w : PortValue} (t : TableWork) → t.done < 2 ^ 10 → LeftPartial v w t → Goes kept f v w
  partial_goes t low a = goes_step (store_plain t.frame (partial_kind (level_type t.level) false false t.done 0) (omega arith) low refl) a.1

  -- ---- tables, until they are full
  on_goes : {owner : ℕ} {v w : PortValue} {ts us : List TableWork} {r : Result Bool Stop} → TookOn owner v ts w us r → Goes kept f v w × (Stands f ts → Stands f us)
  on_goes (fresh v t ts none) = (goes_nothing v, λ s. s)
  on_goes (settled v w t ts some a) = (again_goes some a, λ s. s)
  on_goes (taken v u w t ts g some a b) = (goes_then (again_goes some a) (back_goes b), λ s. s)
  on_goes (opened v u w t ts us g progress answer some a b) =
      let on = on_goes b in
      (goes_then (again_goes some a) on.0, λ s. on.1 (resumed_low v u t.frame (t.done - 1) (level_type t.level) _ _ a.found, s))
  on_goes (waiting v u w t ts g stamp stop some a b) = (goes_then (again_goes some a) (shared_goes g (t.level - 1) stamp (resumed_low v u t.frame (t.done - 1) (level_type t.level) _ _ a.found) b), λ s. s)
  on_goes (stopped v w t ts stop some a) = (again_goes some a, λ s. s)

  advanced_goes : {owner : ℕ} {v w : PortValue} {ts us : List TableWork} {r : Result Bool Stop} → Advanced owner v ts w us r → Goes kept f v w × (Stands f ts → Stands f us)
  advanced_goes (recorded v w t ts few a) = (entry_goes a, one_more f t ts few)
  advanced_goes (opened v u w t ts us g progress own done few a b) =
      let on = on_goes b in
      (goes_then (entry_goes a) on.0, λ s. on.1 (entered_low v u t.frame t.done (level_type t.level) _ _ a.found, one_more f t ts few s))
  advanced_goes (cut_off v u w t ts us g progress own stop few a b) =
      let on = on_goes b in
      (goes_then (entry_goes a) on.0, λ s. on.1 (entered_low v u t.frame t.done (level_type t.level) _ _ a.found, one_more f t ts few s))
  advanced_goes (unsettled v w t ts stop few a) = (entry_goes a, one_more f t ts few)
  advanced_goes (stopped v w t ts stop few a) = (entry_goes a, λ s. s)
  advanced_goes (completed v u w t outer ts full a b) = (goes_then (live_goes t a) (joined_goes t outer t.recorded b), λ s. s.1)

  then_on : {v u w : PortValue} {A B C : Type 0} → Goes kept f v u × (A → B) → Goes kept f u w × (B → C) → Goes kept f v w × (A → C)
  then_on a b = (goes_then a.0 b.0, λ s. b.1 (a.1 s))

  filled_goes : {owner : ℕ} {v : PortValue} {ts : List TableWork} {before : List Bool} {w : PortValue} {us : List TableWork} {answers : List Bool} {r : Result (Unit {0}) Stop} → Filled owner v ts before w us answers r → Goes kept f v w × (Stands f ts → Stands f us)
  filled_goes {owner} {v} begun = (goes_nothing v, λ s. s)
  filled_goes (unasked u w us xs done answers a b off) = then_on (filled_goes a) (advanced_goes b)
  filled_goes (asked u w us xs answers a b on) = then_on (filled_goes a) (advanced_goes b)
  filled_goes (due u w us xs answers a b on) = then_on (filled_goes a) (advanced_goes b)
  filled_goes (stopped u w us xs answers stop a b) = then_on (filled_goes a) (advanced_goes b)

  worked_goes : {owner : ℕ} {v : PortValue} {t : TableWork} {w : PortValue} {us : List TableWork} {answers : List Bool} {r : Result (Unit {0}) Stop} → Worked owner v t w us answers r → Goes kept f v w × (Stands f (t ∷ []) → Stands f us)
  worked_goes (cut_off w us stop a) = on_goes a
  worked_goes (due w us a on) = on_goes a
  worked_goes (filled u w us xs done answers answer a b) = then_on (on_goes a) (filled_goes b)

  -- ---- tables that are left
  inner_goes : {v w : PortValue} (t outer : TableWork) (own : Bool) → t.done < 2 ^ 10 → InnerLeft v w t outer own → Goes kept f v w
  inner_goes t outer true low a = let l = a.1 in goes_then (partial_goes t low l.1) (goes_step refl l.2.1)
  inner_goes t outer false low a = goes_then (partial_goes t low a.1) (gave_goes a.2)

module _ (f : ℕ) where
  outermost_goes : {v w : PortValue} (owner : ℕ) (t : TableWork) (own kept : Bool) → t.done < 2 ^ 10 → t.frame ≡ f → OutermostLeft v w owner t own kept → Goes kept f v w
  outermost_goes {v} {w} owner t true true low is a = subst (λ g. Goes true g v w) is (kept_goes (partial_kind (level_type t.level) true false t.done 0) (omega arith) low refl a)
  outermost_goes owner t true false low is a = goes_then (partial_goes t low a.1) (goes_step refl a.2)
  outermost_goes owner t false kept low is a = goes_then (partial_goes t low a.1) (gave_goes a.2)

  unwound_goes : (v : PortValue) (owner : ℕ) (ts : List TableWork) (kept : Bool) (w : PortValue) → Stands f ts → Unwound v owner ts kept w → Goes kept f v w
  unwound_goes v owner [] kept w s a = subst (λ x. Goes kept f v x) (sym a) (goes_nothing v)
  unwound_goes v owner (t ∷ []) kept w s a = outermost_goes owner t t.own kept s.0 s.1 a
  unwound_goes v owner (t ∷ outer ∷ ts) kept w s a = goes_then (inner_goes t outer t.own s.0 a.1) (unwound_goes a.0 owner (around_left t outer ∷ ts) kept w (around_by f (t.own || t.recorded) outer ts s.1) a.2)

  waiting_goes : {v w : PortValue} (level owner stamp : ℕ) (own kept : Bool) → stamp < 2 ^ 36 → WaitingLeft v w f level owner stamp own kept → Goes kept f v w
  waiting_goes level owner stamp true true small a = kept_goes (partial_kind (level_type level) true true 0 stamp) small (omega arith) refl a
  waiting_goes level owner stamp true false small a = goes_then (goes_by (StoresKind f (partial_kind (level_type level) false true 0 stamp)) (marked_plain f (level_type level) stamp small) a.1) (goes_step refl a.2)
  waiting_goes level owner stamp false kept small a = goes_by (λ vs. SharedBy f (level_type level) stamp vs) (shared_plain f (level_type level) stamp small) a

-- ---- the whole
pub acquired_goes : (v : PortValue) (f owner level : ℕ) (w : PortValue) (answers : List Bool) (answer : Result ℕ Stop) → Acquired v f owner level w answers answer → Goes (is_paused_answer answer) f v w
acquired_goes v f owner level _ _ _ (unreferred w stop a) = got_goes a
acquired_goes v f owner level _ _ _ (untyped u x w stop a b d) = goes_then (got_goes a) (goes_then (type_goes b) (gave_goes d))
acquired_goes v f owner level _ _ _ (counted u w a b) = goes_then (got_goes a) (type_goes b)
acquired_goes v f owner level _ _ _ (waiting u x w own stamp stop a b d) = goes_then (got_goes a) (goes_then (type_goes b) (waiting_goes f level owner stamp own (keeps_it stop) (type_low u x f owner (level_type level) _ b.found) d))
acquired_goes v f owner level _ _ _ (unfinished u x y w progress own us answers stop a b d e) =
    let on = worked_goes d in
    goes_then (got_goes a) (goes_then (type_goes b) (goes_then on.0 (unwound_goes f y owner us (keeps_it stop) w (on.1 (type_low u x f owner (level_type level) _ b.found, refl)) e)))
acquired_goes v f owner level _ _ _ (finished u x y w progress own t answers a b d full e) =
    let on = worked_goes d in
    goes_then (got_goes a) (goes_then (type_goes b) (goes_then on.0 (live_goes t e)))
