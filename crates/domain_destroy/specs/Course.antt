-- The course of a destruction: from place to place, with the frames that it lists and the answers of the gate.
use Rattle.std.specs.Prelude.{◌≡◌, ◌≢◌, ℕ, ◌+◌, ◌<◌, ◌≤◌, Bool, true, false, List, [], ◌∷◌, ◌++◌, length, None, Some, Result, Ok, Err, IsTrue}
use Rattle.xp_words.specs.Places.{run_of}
use Rattle.xp_words.specs.declared.place.Place.TheVariants.{Kind, Life, Priv, Refs}
use Rattle.xp_words.specs.declared.reply.LogLine.{LogLine}
use Rattle.xp_words.specs.declared.reply.LogLine.TheVariants as lines
use Rattle.xp_words.specs.declared.reply.Pause.TheVariants.{Alive, Busy, Due}
use Rattle.xp_words.specs.declared.reply.Refusal.TheVariants.{Dying, NoDomain, NoPrivilege}
use Rattle.xp_words.specs.declared.reply.Stop.{Stop}
use Rattle.xp_words.specs.declared.reply.Stop.TheVariants.{Paused, Refused}
use Rattle.xp_board.specs.Readings.{domain_of, has_now, is_dying, owner_of, ref_count}
use Rattle.xp_board.specs.Told.{Post, PortValue}
use Rattle.xp_board.specs.declared.step.Act.TheVariants.{Cas, Load, Store}
use Rattle.xp_board.specs.declared.step.StepKind.TheVariants as kinds
use Rattle.step_maker.specs.Moves.{Moves}
use Rattle.step_maker.specs.Pauses.{found_in_use}
use Rattle.step_maker.specs.Visits.{Does, Nothing, Only, Then, Visit, visit}
use Rattle.frame_claims.specs.Found.{Upwards}
use Rattle.frame_words.specs.Refs.{saw_refs}
use Rattle.domain_destroy.specs.Clearing.{ClearsFrame}
use Rattle.domain_destroy.specs.Emptying.{EmptiesOne}
use Rattle.domain_destroy.specs.Hearing.{heard_no}
use Rattle.domain_destroy.specs.declared.place.DestroyAt.{DestroyAt}
use Rattle.domain_destroy.specs.declared.place.DestroyAt.TheVariants.{Begins, Stops, Empties, Clears, Checks, Lists}

-- ---- frames that are listed
-- one of them, with the reference word that was found
pub record LeftFrame : Type 0 where
  pub frame : ℕ
  pub word : ℕ

-- the lines of that operation on them
abbrev pub left_lines : ℕ → List LeftFrame → List LogLine
left_lines op [] = []
left_lines op (x ∷ xs) = lines.Left op x.frame x.word ∷ left_lines op xs

-- ---- the beginning
abbrev pub own_of : Post → ℕ
own_of q = domain_of q.machine q.vcpu

-- the privileges of the own domain were so, and the life word of the other one
abbrev pub LooksAndDooms : Post → ℕ → ℕ → ℕ → List Visit → Type 0
LooksAndDooms q d x found vs = Then (Only (visit (Priv (own_of q)) Load x)) (Only (visit (Life d) (Cas 0 (q.vcpu + 1)) found)) vs

-- The own vCPU destroys the domain from then on; or there is no such domain; or it is the own one, over which there is no privilege; or the own one has none over it; or it is
-- dying or dead already.
pub data BeginsBy (q : Post) (d : ℕ) : Result (Unit {0}) Stop → List Visit → Type 0 where
  begun : (x : ℕ) (vs : List Visit) → d < length q.machine.page_limit → d ≢ own_of q → IsTrue (has_now d x) → LooksAndDooms q d x 0 vs → BeginsBy q d (Ok tt) vs
  missing : (vs : List Visit) → length q.machine.page_limit ≤ d → Nothing vs → BeginsBy q d (Err (Refused NoDomain)) vs
  own : (vs : List Visit) → d ≡ own_of q → Nothing vs → BeginsBy q d (Err (Refused (NoPrivilege (own_of q) d))) vs
  barred : (x : ℕ) (vs : List Visit) → d < length q.machine.page_limit → d ≢ own_of q → has_now d x ≡ false → Only (visit (Priv (own_of q)) Load x) vs →
      BeginsBy q d (Err (Refused (NoPrivilege (own_of q) d))) vs
  dying : (x found : ℕ) (vs : List Visit) → d < length q.machine.page_limit → d ≢ own_of q → IsTrue (has_now d x) → found ≢ 0 → LooksAndDooms q d x found vs →
      BeginsBy q d (Err (Refused (Dying d found))) vs

-- ---- the pass over all frames
-- The frame was found another's; or the domain's, and no page table nor descriptor page in use.
pub data FoundNoUse (d f : ℕ) (vs : List Visit) : Type 0 where
  others : (y : ℕ) → owner_of y ≢ Some d → Only (saw_refs f y) vs → FoundNoUse d f vs
  unused : (y x : ℕ) → owner_of y ≡ Some d → found_in_use x ≡ false → Then (Only (saw_refs f y)) (Only (visit (Kind f) Load x)) vs → FoundNoUse d f vs

pub record FoundInUse (d f x : ℕ) (vs : List Visit) : Type 0 where
  pub word : ℕ
  pub owned : owner_of word ≡ Some d
  pub in_use : IsTrue (found_in_use x)
  pub steps : Then (Only (saw_refs f word)) (Only (visit (Kind f) Load x)) vs

abbrev pub ChecksFrame : ℕ → ℕ → Result (Unit {0}) Stop → List Visit → Type 0
ChecksFrame d f (Ok done) vs = FoundNoUse d f vs
ChecksFrame d f (Err (Paused (Busy g x))) vs = (g ≡ f) × FoundInUse d f x vs
ChecksFrame d f (Err e) vs = ⊥

-- ---- one frame that is listed, or another's
pub data ListsFrame (d f y : ℕ) : List LeftFrame → Type 0 where
  others : owner_of y ≢ Some d → ListsFrame d f y []
  left : owner_of y ≡ Some d → 0 < ref_count y → ListsFrame d f y (record { frame = f; word = y } ∷ [])

-- ---- one part: from u to w, from a place to a place
pub data Advances (d : ℕ) (u : PortValue) : DestroyAt → PortValue → DestroyAt → List LeftFrame → List Bool → Result (Unit {0}) Stop → Type 0 where
  begun : (w : PortValue) → Does u w (λ vs. BeginsBy u.post d (Ok tt) vs) → Advances d u Begins w (Stops 0) [] [] (Ok tt)
  refused : (w : PortValue) (e : Stop) → Does u w (λ vs. BeginsBy u.post d (Err e) vs) → Advances d u Begins w Begins [] [] (Err e)
  -- each vCPU of the domain is found stopped
  passed_over : (v : ℕ) → v < length u.post.machine.vcpu_domain → domain_of u.post.machine v ≢ d → Advances d u (Stops v) u (Stops (v + 1)) [] [] (Ok tt)
  stopped : (v : ℕ) (w : PortValue) → v < length u.post.machine.vcpu_domain → domain_of u.post.machine v ≡ d → Moves u w (run_of v) Load kinds.Look None 1 →
      Advances d u (Stops v) w (Stops (v + 1)) [] [] (Ok tt)
  alive : (v found : ℕ) (w : PortValue) → v < length u.post.machine.vcpu_domain → domain_of u.post.machine v ≡ d → found ≢ 1 → Moves u w (run_of v) Load kinds.Look None found →
      Advances d u (Stops v) w (Stops v) [] [] (Err (Paused (Alive v found)))
  all_stopped : (v : ℕ) → length u.post.machine.vcpu_domain ≤ v → Advances d u (Stops v) u (Empties 0) [] [] (Ok tt)
  -- its words are emptied; the gate is asked behind each vCPU of the domain
  emptied : (v : ℕ) (w : PortValue) (answers : List Bool) (passed : Bool) → v < length u.post.machine.vcpu_domain → EmptiesOne d v u w answers (Ok passed) →
      Advances d u (Empties v) w (Empties (v + 1)) [] (heard_no passed answers) (Ok tt)
  emptied_due : (v : ℕ) (w : PortValue) (answers : List Bool) → v < length u.post.machine.vcpu_domain → EmptiesOne d v u w answers (Ok true) →
      Advances d u (Empties v) w (Empties (v + 1)) [] (true ∷ answers) (Err (Paused Due))
  unemptied : (v : ℕ) (w : PortValue) (answers : List Bool) (e : Stop) → v < length u.post.machine.vcpu_domain → EmptiesOne d v u w answers (Err e) →
      Advances d u (Empties v) w (Empties v) [] answers (Err e)
  all_emptied : (v : ℕ) → length u.post.machine.vcpu_domain ≤ v → Advances d u (Empties v) u (Clears 0) [] [] (Ok tt)
  -- each frame of it loses its marks; the gate is asked behind each of them
  cleared : (f : ℕ) (w : PortValue) (answers : List Bool) (passed : Bool) → f < u.post.machine.frames → ClearsFrame d f u w answers (Ok passed) →
      Advances d u (Clears f) w (Clears (f + 1)) [] (heard_no passed answers) (Ok tt)
  cleared_due : (f : ℕ) (w : PortValue) (answers : List Bool) → f < u.post.machine.frames → ClearsFrame d f u w answers (Ok true) →
      Advances d u (Clears f) w (Clears (f + 1)) [] (true ∷ answers) (Err (Paused Due))
  uncleared : (f : ℕ) (w : PortValue) (answers : List Bool) (e : Stop) → f < u.post.machine.frames → ClearsFrame d f u w answers (Err e) →
      Advances d u (Clears f) w (Clears f) [] answers (Err e)
  all_cleared : (f : ℕ) → u.post.machine.frames ≤ f → Advances d u (Clears f) u Checks [] [] (Ok tt)
  -- one pass finds none in use
  checked : (w : PortValue) → Does u w (λ vs. Upwards (FoundNoUse d) 0 u.post.machine.frames vs) → Advances d u Checks w (Lists 0 0) [] [] (Ok tt)
  in_use : (f x : ℕ) (w : PortValue) → f < u.post.machine.frames → Does u w (λ vs. Then (Upwards (FoundNoUse d) 0 f) (FoundInUse d f x) vs) →
      Advances d u Checks w Checks [] [] (Err (Paused (Busy f x)))
  -- those that are left are listed, each once
  listed : (f left y : ℕ) (w : PortValue) (more : List LeftFrame) → f < u.post.machine.frames → Moves u w (Refs f) Load kinds.Look None y → ListsFrame d f y more →
      Advances d u (Lists f left) w (Lists (f + 1) (left + length more)) more [] (Ok tt)
  half_free : (f left y : ℕ) (w : PortValue) → f < u.post.machine.frames → Moves u w (Refs f) Load kinds.Look None y → owner_of y ≡ Some d → IsTrue (is_dying y) →
      Advances d u (Lists f left) w (Lists f left) [] [] (Err (Paused (Busy f y)))

-- ---- one behind the other, until one of them stops it
pub data GoesOn (d : ℕ) (v : PortValue) (at : DestroyAt) : PortValue → DestroyAt → List LeftFrame → List Bool → Result (Unit {0}) Stop → Type 0 where
  begins : GoesOn d v at v at [] [] (Ok tt)
  advances : (u w : PortValue) (by to : DestroyAt) (some more : List LeftFrame) (answers asked : List Bool) (answer : Result (Unit {0}) Stop) → GoesOn d v at u by some answers (Ok tt) →
      Advances d u by w to more asked answer → GoesOn d v at w to (some ++ more) (asked ++ answers) answer

-- ---- all of it
-- It stopped; or each frame was looked at, and then one step stored that the domain is dead. Its value is how many are left.
pub data Destroys (d : ℕ) (v : PortValue) (at : DestroyAt) : PortValue → DestroyAt → List LeftFrame → List Bool → Result ℕ Stop → Type 0 where
  stops : (w : PortValue) (to : DestroyAt) (more : List LeftFrame) (answers : List Bool) (e : Stop) → GoesOn d v at w to more answers (Err e) → Destroys d v at w to more answers (Err e)
  buries : (u w : PortValue) (frame left found : ℕ) (more : List LeftFrame) (answers : List Bool) → GoesOn d v at u (Lists frame left) more answers (Ok tt) → u.post.machine.frames ≤ frame →
      Moves u w (Life d) (Store 255) kinds.Life None found → Destroys d v at w (Lists frame left) more answers (Ok left)
