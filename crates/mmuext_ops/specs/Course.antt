-- The course of a pin and of an unpin: the calls that each makes, from port to port, and the answers of the gate.
use Rattle.std.specs.Prelude.{◌≡◌, ◌≢◌, ℕ, Bool, true, false, List, [], Option, Some, None, Result, Ok, Err, IfErr, IfOk}
use Rattle.xp_words.specs.KindWords.{kind_fields, kind_write}
use Rattle.xp_words.specs.Places.{number, sizes_of}
use Rattle.xp_words.specs.declared.place.Place.TheVariants.{Clock, Kind}
use Rattle.xp_words.specs.declared.reply.Pause.TheVariants.{Due, Lost}
use Rattle.xp_words.specs.declared.reply.Refusal.TheVariants as refusals
use Rattle.xp_words.specs.declared.reply.Stop.{Stop}
use Rattle.xp_words.specs.declared.reply.Stop.TheVariants.{Refused, Paused}
use Rattle.xp_board.specs.declared.step.Act.TheVariants.{Cas, Load, Store}
use Rattle.xp_board.specs.declared.step.StepKind.TheVariants as kinds
use Rattle.xp_board.specs.Readings.{last_clock}
use Rattle.xp_board.specs.Told.{PortValue}
use Rattle.step_maker.specs.Holds.{Holds, Same}
use Rattle.step_maker.specs.Reasons.{Those}
use Rattle.step_maker.specs.Visits.{Does}
use Rattle.flush_words.specs.Flushing.{FlushedBy}
use Rattle.flush_waits.specs.Listing.{WaitedFor}
use Rattle.flush_waits.specs.Waiting.{AreClear, meant}
use Rattle.table_bases.specs.Asking.{user_frame}
use Rattle.table_bases.specs.Course.{SetsBase}
use Rattle.table_bases.specs.declared.words.Base.TheVariants.{Kernel, User}
use Rattle.tlb_walks.specs.Dropping.{Invalidates, Uncached, left_cached}
use Rattle.step_maker.specs.Moves.{Moves}
use Rattle.frame_types.specs.Lowering.{DropsType}
use Rattle.kind_words.specs.Kinds.{partial_kind}
use Rattle.partial_state.specs.Levels.{level_type}
use Rattle.table_words.specs.Pins.{pinned_kind, unpinned_kind}
use Rattle.table_entries.specs.Acquiring.{Acquired, GaveRef, GotRef, Named}
use Rattle.level_release.specs.Course.{WasReleased}
use Rattle.desc_pages.specs.Ldt.{SetsLdt}
use Rattle.whole_pages.specs.Whole.{ClearsPage, CopiesPage}
use Rattle.mmuext_ops.specs.declared.element.Element.{Element}
use Rattle.mmuext_ops.specs.declared.element.Element.TheVariants.{Pin, Unpin, NewBase, NewUserBase, FlushLocal, Invalidate, FlushVcpus, SetLdt, ClearPage, CopyPage, Unknown}
use Rattle.xp_preempt.specs.Gates.{Gate, GatedPast}
use Rattle.table_entries.specs.Ending.{is_due_answer}

-- the kind word of frame f was looked at
abbrev pub SawKind : PortValue → PortValue → ℕ → ℕ → Type 0
SawKind v w f x = Moves v w (Kind f) Load kinds.Look None x

-- an exchange that is to set or take off the pin of the word that was seen, and what it found
abbrev pub SetsPin : PortValue → PortValue → ℕ → ℕ → ℕ → Type 0
SetsPin v w f x found = Moves v w (Kind f) (Cas x (kind_write (pinned_kind (kind_fields x)))) kinds.Kind None found

abbrev pub TakesPinOff : PortValue → PortValue → ℕ → ℕ → ℕ → Type 0
TakesPinOff v w f x found = Moves v w (Kind f) (Cas x (kind_write (unpinned_kind (kind_fields x)))) kinds.Kind None found

abbrev pub is_pinned : ℕ → Bool
is_pinned x = (kind_fields x).pinned

-- ---- a typed reference to a live table is given back
-- it was not the last; or all entries stay recorded, and the own mark keeps the reference, or the first old word names the frame
pub data GivenUp (v : PortValue) (f level : ℕ) : Bool → PortValue → Type 0 where
  shared : (u w : PortValue) (kept : Bool) → DropsType v u f false → GaveRef u w f → GivenUp v f level kept w
  marked : (u w : PortValue) (x : ℕ) → DropsType v u f true → Moves u w (Kind f) (Store (kind_write (partial_kind (level_type level) true false 512 0))) kinds.Kind None x → GivenUp v f level true w
  named : (u y w : PortValue) (x : ℕ) → DropsType v u f true → Moves u y (Kind f) (Store (kind_write (partial_kind (level_type level) false false 512 0))) kinds.Kind None x → Named y w f →
      GivenUp v f level false w

-- ---- a pin
-- the frame is live, and a typed reference to it in hand
pub data PinEnds (v w : PortValue) (f level : ℕ) : Result (Unit {0}) Stop → Type 0 where
  pinned : (u : PortValue) (x : ℕ) → SawKind v u f x → is_pinned x ≡ false → SetsPin u w f x x → PinEnds v w f level (Ok tt)
  seen : (u : PortValue) (x : ℕ) → SawKind v u f x → is_pinned x ≡ true → GivenUp u f level false w → PinEnds v w f level (Err (Refused (refusals.AlreadyPinned x)))
  raced : (u y : PortValue) (x found : ℕ) → SawKind v u f x → is_pinned x ≡ false → SetsPin u y f x found → found ≢ x → is_pinned found ≡ true → GivenUp y f level false w →
      PinEnds v w f level (Err (Refused (refusals.AlreadyPinned found)))
  lost : (u y : PortValue) (x found : ℕ) → SawKind v u f x → is_pinned x ≡ false → SetsPin u y f x found → found ≢ x → is_pinned found ≡ false → GivenUp y f level true w →
      PinEnds v w f level (Err (Paused (Lost (number (sizes_of v.post.machine) (Kind f)) x found)))

-- It is pinned with the type of that level.
abbrev pub IsPinnedAs : ℕ → ℕ → Type 0
IsPinnedAs level x = (is_pinned x ≡ true) × ((kind_fields x).kind ≡ level_type level)

-- the frame is looked at under a reference of its own, and then acquired
pub data Pinned (v w : PortValue) (d f level : ℕ) : List Bool → Result (Unit {0}) Stop → Type 0 where
  unreferred : (stop : Stop) → GotRef v w f d (Err stop) → Pinned v w d f level [] (Err stop)
  pinned_before : (a b : PortValue) (x : ℕ) → GotRef v a f d (Ok f) → SawKind a b f x → GaveRef b w f → IsPinnedAs level x → Pinned v w d f level [] (Err (Refused (refusals.AlreadyPinned x)))
  refused : (a b c : PortValue) (x : ℕ) (answers : List Bool) (stop : Stop) → GotRef v a f d (Ok f) → SawKind a b f x → GaveRef b c f → (IsPinnedAs level x → ⊥) →
      Acquired c f d level w answers (Err stop) → Pinned v w d f level answers (Err stop)
  acquired : (a b c e : PortValue) (x : ℕ) (answers : List Bool) (answer : Result (Unit {0}) Stop) → GotRef v a f d (Ok f) → SawKind a b f x → GaveRef b c f → (IsPinnedAs level x → ⊥) →
      Acquired c f d level e answers (Ok f) → PinEnds e w f level answer → Pinned v w d f level answers answer

-- ---- an unpin
pub data Unpinned (v w : PortValue) (d f : ℕ) : List Bool → Result (Unit {0}) Stop → Type 0 where
  unreferred : (stop : Stop) → GotRef v w f d (Err stop) → Unpinned v w d f [] (Err stop)
  unpinned_before : (a b : PortValue) (x : ℕ) → GotRef v a f d (Ok f) → SawKind a b f x → is_pinned x ≡ false → GaveRef b w f → Unpinned v w d f [] (Err (Refused (refusals.NotPinned x)))
  raced : (a b c : PortValue) (x found : ℕ) → GotRef v a f d (Ok f) → SawKind a b f x → is_pinned x ≡ true → TakesPinOff b c f x found → found ≢ x → is_pinned found ≡ false → GaveRef c w f →
      Unpinned v w d f [] (Err (Refused (refusals.NotPinned found)))
  lost : (a b c : PortValue) (x found : ℕ) → GotRef v a f d (Ok f) → SawKind a b f x → is_pinned x ≡ true → TakesPinOff b c f x found → found ≢ x → is_pinned found ≡ true → GaveRef c w f →
      Unpinned v w d f [] (Err (Paused (Lost (number (sizes_of v.post.machine) (Kind f)) x found)))
  -- the release is done, or paused for the gate
  released : (a b c e : PortValue) (x : ℕ) (answers : List Bool) (answer : Result (Unit {0}) Stop) → GotRef v a f d (Ok f) → SawKind a b f x → is_pinned x ≡ true → TakesPinOff b c f x x →
      GaveRef c e f → WasReleased e f (kind_fields x).kind w answers answer → IfErr answer (λ stop. stop ≡ Paused Due) → Unpinned v w d f answers (Ok tt)

-- ---- translations are dropped; no gate is asked
-- all of the own ones, but where the clock is at its last value
pub data FlushedLocal (v w : PortValue) : List Bool → Result (Unit {0}) Stop → Type 0 where
  flushed : Does v w (FlushedBy v.post.vcpu (Ok tt)) → Uncached v w → FlushedLocal v w [] (Ok tt)
  spent : Does v w (FlushedBy v.post.vcpu (Err (refusals.Clock last_clock))) → Same v w → FlushedLocal v w [] (Err (Refused (refusals.Clock last_clock)))

-- those of the page of that address
pub record Invalidated (v w : PortValue) (va : ℕ) (answers : List Bool) (answer : Result (Unit {0}) Stop) : Type 0 where
  pub no_ask : answers ≡ []
  pub done : answer ≡ Ok tt
  pub steps : Does v w (Invalidates va)
  pub hand : Holds v w (record v.holdings { cache = left_cached va v.holdings.cache })

-- The clock is looked at. The vCPUs that are meant are waited for past the clock value that was found; or past the one for which the element has waited since
-- an earlier turn. Done, each of them was found not to run, or flushed later.
abbrev pub stamp_for : Option ℕ → ℕ → ℕ
stamp_for (Some stamp) clock = stamp
stamp_for None clock = clock

pub record WaitedForVcpus (v w : PortValue) (mask : ℕ) (awaited : Option ℕ) (answers : List Bool) (answer : Result (Unit {0}) Stop) : Type 0 where
  pub no_ask : answers ≡ []
  pub looked : PortValue
  pub clock : ℕ
  pub looks : Moves v looked Clock Load kinds.Look None clock
  pub waits : Does looked w (λ vs. WaitedFor v.post (Those (meant v.post.machine v.post.vcpu mask)) (stamp_for awaited clock) answer vs)
  pub clear : IfOk answer (λ done. AreClear looked w (meant v.post.machine v.post.vcpu mask) (stamp_for awaited clock))

-- ---- with a gate
-- one that its numbers refuse makes no step and asks nothing
abbrev pub Performed : PortValue → PortValue → ℕ → Element → Option ℕ → List Bool → Result (Unit {0}) Stop → Type 0
Performed v w d (Pin f level) awaited answers answer = Pinned v w d f level answers answer
Performed v w d (Unpin f) awaited answers answer = Unpinned v w d f answers answer
Performed v w d (NewBase f) awaited answers answer = SetsBase v w Kernel (Some f) answers answer
Performed v w d (NewUserBase f) awaited answers answer = SetsBase v w User (user_frame f) answers answer
Performed v w d FlushLocal awaited answers answer = FlushedLocal v w answers answer
Performed v w d (Invalidate va) awaited answers answer = Invalidated v w va answers answer
Performed v w d (FlushVcpus mask) awaited answers answer = WaitedForVcpus v w mask awaited answers answer
Performed v w d (SetLdt address entries) awaited answers answer = (answers ≡ []) × SetsLdt v address entries w answer
Performed v w d (ClearPage f) awaited answers answer = (answers ≡ []) × ClearsPage v d f w answer
Performed v w d (CopyPage to from) awaited answers answer = (answers ≡ []) × ((words : List ℕ) × CopiesPage v d to from words w answer)
Performed v w d Unknown awaited answers answer = (w ≡ v) × (answers ≡ []) × (answer ≡ Err (Refused refusals.BadCommand))

abbrev pub PerformsBy : PortValue → PortValue → ℕ → Element → Option ℕ → Gate → Gate → Result (Unit {0}) Stop → Type 0
PerformsBy v w d e awaited g h answer = GatedPast g h (is_due_answer answer) (λ answers. Performed v w d e awaited answers answer)
