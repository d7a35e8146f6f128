-- The stamp that a frame waits for, and how many of its entries are recorded, were found in its word: so they have their places in one.
use Rattle.std.proofs.Common.{◌≡◌, ℕ, ◌<◌, ◌^◌, Bool, true, false, List, Ok, subst, sym, arith, if◌then◌else◌}
use Rattle.xp_words.specs.Entries.{demand_at}
use Rattle.xp_words.specs.KindWords.{kind_fields}
use Rattle.xp_words.proofs.KindLaws.{fields_in_range}
use Rattle.xp_words.specs.Machine.{Machine}
use Rattle.xp_words.specs.declared.entry.Demand.{Demand}
use Rattle.xp_words.specs.declared.entry.Demand.TheVariants as demands
use Rattle.xp_words.specs.declared.kind.PageType.{PageType}
use Rattle.xp_words.specs.declared.reply.Stop.{Stop}
use Rattle.xp_board.specs.Told.{Post, PortValue}
use Rattle.step_maker.specs.Visits.{Does, Visit}
use Rattle.frame_words.specs.Refs.{TakesFirst, had, stopped}
use Rattle.frame_types.specs.Found.{GoesBy, TakesBy, TakesFound, TakesOf}
use Rattle.frame_types.specs.Plain.{IsTakenBy, is_own, waits_by}
use Rattle.frame_types.specs.Standing.{standing_of}
use Rattle.frame_types.specs.declared.standing.Standing.{Standing}
use Rattle.frame_types.specs.declared.standing.Standing.TheVariants as stands
use Rattle.frame_types.specs.declared.taking.Taken.{Taken}
use Rattle.frame_types.specs.declared.taking.Taken.TheVariants as types
use Rattle.table_entries.specs.Found.{EntersBy, EntersFound, LastBy, ResumesBy, ResumesFound, TypedAgain, TypedBy, other, outside, settled}
use Rattle.table_entries.specs.declared.entries.Entered.{Entered}
use Rattle.table_entries.specs.declared.entries.Entered.TheVariants as entered
use Rattle.table_entries.specs.declared.resuming.Resumed.{Resumed}
use Rattle.table_entries.specs.declared.resuming.Resumed.TheVariants as again

-- ---- a type that is taken
abbrev pub IsLow : Taken → Type 0
IsLow types.Counted = Unit {0}
IsLow (types.InWork progress own) = progress < 2 ^ 10
IsLow (types.Waiting own stamp stop) = stamp < 2 ^ 36

progress_low : (b : Bool) (p : ℕ) → p < 2 ^ 10 → (if b then p else 0) < 2 ^ 10
progress_low true p low = low
progress_low false p low = omega arith

-- it was awaited where the word was marked
goes_low : (q : Post) (f owner : ℕ) (want : PageType) (marked : Bool) (x : ℕ) (mine own : Bool) (stamp : ℕ) (stop : Stop) (vs : List Visit) → marked ≡ true → GoesBy q f owner want marked (kind_fields x).number mine (types.Waiting own stamp stop) vs → stamp < 2 ^ 36
unfolding kind_fields
goes_low q f owner want true x mine own stamp stop vs on a = let is = a.first.0 in omega (arith, is)
goes_low q f owner want false x mine own stamp stop vs on a = absurd cc

takes_low : (q : Post) (f owner : ℕ) (want : PageType) (x : ℕ) (s : Standing) (t : Taken) (vs : List Visit) → IsTakenBy want (kind_fields x) s t → TakesBy q f owner want x s t vs → IsLow t
takes_low q f owner want x s types.Counted vs way a = tt
takes_low q f owner want x stands.Counted (types.InWork progress own) vs way a = absurd cc
takes_low q f owner want x stands.Counted (types.Waiting own stamp stop) vs way a = absurd cc
takes_low q f owner want x s (types.InWork progress own) vs way a = subst (λ n. n < 2 ^ 10) (sym way.2) (progress_low (kind_fields x).partial (kind_fields x).progress (fields_in_range x).1)
takes_low q f owner want x s (types.Waiting own stamp stop) vs way a = goes_low q f owner want (waits_by (kind_fields x) want s) x (is_own (kind_fields x) s) own stamp stop a.next.after way.0 a.next.next

pub taken_low : {q : Post} {f owner : ℕ} {want : PageType} {t : Taken} {vs : List Visit} → TakesOf q f owner want t vs → IsLow t
taken_low {q} {f} {owner} {want} {t} {vs} a = takes_low q f owner want a.word (standing_of (kind_fields a.word) want) t a.steps.after a.way a.steps.next

pub type_low : (v w : PortValue) (f owner : ℕ) (want : PageType) (t : Taken) → TakesFound v w f owner want (Ok t) → IsLow t
unfolding Does
type_low v w f owner want t a = taken_low a.2

-- ---- an entry
abbrev pub IsLowEntered : Entered → Type 0
IsLowEntered (entered.Opened g progress own) = progress < 2 ^ 10
IsLowEntered _ = Unit {0}

abbrev pub IsLowResumed : Resumed → Type 0
IsLowResumed (again.Opened g progress) = progress < 2 ^ 10
IsLowResumed (again.Waiting g stamp stop) = stamp < 2 ^ 36
IsLowResumed _ = Unit {0}

first_low : {A : Type 0} {n : Machine} {f owner : ℕ} {P : List Visit → Type 0} {a : A} {vs : List Visit} {C : Type 0} → ((us : List Visit) → P us → C) → TakesFirst n f owner P (Ok a) vs → C
first_low p (stopped e is got) = absurd cc
first_low p (had t) = p t.after t.next

entry_low : (q : Post) (g owner : ℕ) (t : PageType) (f i : ℕ) (a : Entered) (vs : List Visit) → TypedBy q g owner t f i (Ok a) vs → IsLowEntered a
entry_low q g owner t f i entered.Recorded vs b = tt
entry_low q g owner t f i (entered.Opened h progress own) vs b = taken_low b.1
entry_low q g owner t f i (entered.Unsettled stop) vs b = tt

enters_low : (q : Post) (f i owner : ℕ) (a : Entered) (word : ℕ) (d : Demand) (vs : List Visit) → EntersBy q f i owner (Ok a) word d vs → IsLowEntered a
enters_low q f i owner (entered.Opened h progress own) word demands.Nothing vs b = absurd (let is = b.0 in cc)
enters_low q f i owner (entered.Opened h progress own) word demands.Bad vs b = absurd (let is = b.0 in cc)
enters_low q f i owner (entered.Opened h progress own) word (demands.Read g) vs b = absurd b
enters_low q f i owner a word (demands.Typed g t) vs b = first_low (entry_low q g owner t f i a) b
enters_low q f i owner entered.Recorded word d vs b = tt
enters_low q f i owner (entered.Unsettled stop) word d vs b = tt

pub entered_low : (v w : PortValue) (f i : ℕ) (t : PageType) (owner : ℕ) (a : Entered) → EntersFound v w f i t owner (Ok a) → IsLowEntered a
unfolding Does
entered_low v w f i t owner a found = let e = found.2 in enters_low v.post f i owner a e.0 (demand_at t i e.0) e.1.after e.1.next

typed_low : (q : Post) (g owner : ℕ) (t : PageType) (a : Resumed) (vs : List Visit) → TypedAgain q g owner t (Ok a) vs → IsLowResumed a
typed_low q g owner t again.Settled vs b = tt
typed_low q g owner t (again.Taken h) vs b = tt
typed_low q g owner t (again.Opened h progress) vs b = taken_low b.1
typed_low q g owner t (again.Waiting h stamp stop) vs b = taken_low b.1

last_low : (q : Post) (g owner : ℕ) (t : PageType) (a : Resumed) (vs : List Visit) → LastBy q g t owner (Ok a) vs → IsLowResumed a
last_low q g owner t a vs (settled x inside live is one) = subst (λ (r : Resumed). IsLowResumed r) (let same : again.Settled ≡ a = cc in same) tt
last_low q g owner t a vs (outside far b) = first_low (typed_low q g owner t a) b
last_low q g owner t a vs (other x inside off b) = first_low (typed_low q g owner t a) b.next

resumes_low : (q : Post) (owner : ℕ) (a : Resumed) (d : Demand) (vs : List Visit) → ResumesBy q owner (Ok a) d vs → IsLowResumed a
resumes_low q owner a (demands.Typed g t) vs b = last_low q g owner t a vs b
resumes_low q owner a demands.Nothing vs b = subst (λ (r : Resumed). IsLowResumed r) (let is = b.0 in let same : again.Settled ≡ a = cc in same) tt
resumes_low q owner a demands.Bad vs b = subst (λ (r : Resumed). IsLowResumed r) (let is = b.0 in let same : again.Settled ≡ a = cc in same) tt
resumes_low q owner a (demands.Read g) vs b = subst (λ (r : Resumed). IsLowResumed r) (let is = b.0 in let same : again.Settled ≡ a = cc in same) tt

pub resumed_low : (v w : PortValue) (f i : ℕ) (t : PageType) (owner : ℕ) (a : Resumed) → ResumesFound v w f i t owner (Ok a) → IsLowResumed a
unfolding Does
resumed_low v w f i t owner a found = let e = found.2 in resumes_low v.post owner a (demand_at t i e.0) e.1.after e.1.next
