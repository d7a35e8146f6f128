-- How the words of a stopped vCPU are emptied, and what they named released.
use Rattle.std.specs.Prelude.{◌≡◌, ◌≢◌, ℕ, ◌+◌, ◌-◌, ◌<◌, ◌≤◌, nat_lt, if◌then◌else◌, Bool, true, false, List, [], ◌∷◌, ◌++◌, Some, None, Result, Ok, Err}
use Rattle.xp_words.specs.declared.place.Place.TheVariants.{Vcpu}
use Rattle.xp_words.specs.declared.reply.Stop.{Stop}
use Rattle.xp_board.specs.Hands.{IsEmptyHand}
use Rattle.xp_board.specs.Readings.{domain_of}
use Rattle.xp_board.specs.Told.{PortValue}
use Rattle.xp_board.specs.declared.holdings.Holdings.{Holdings}
use Rattle.xp_board.specs.declared.holdings.TypedReference.{TypedReference}
use Rattle.xp_board.specs.declared.step.Act.TheVariants.{Load, Store}
use Rattle.xp_board.specs.declared.step.StepKind.TheVariants as kinds
use Rattle.step_maker.specs.Holds.{Holds, MayWork}
use Rattle.step_maker.specs.Moves.{Moves}
use Rattle.table_words.specs.OldWords.{known_old}
use Rattle.table_words.specs.declared.old_words.OldWord.TheVariants.{First, Second}
use Rattle.table_entries.specs.Acquiring.{Named}
use Rattle.level_release.specs.Course.{Settled}

-- ---- what is in hand
-- neither own old word names a frame
pub record NamesNone (v : PortValue) : Type 0 where
  pub first : known_old First v.holdings ≡ Some 0
  pub second : known_old Second v.holdings ≡ Some 0

-- no typed reference is in hand
abbrev pub untyped_hand : Holdings → Holdings
untyped_hand h = record h { typed = [] }

-- all that is in hand is one typed reference to the frame
pub record HoldsOne (v : PortValue) (f : ℕ) : Type 0 where
  pub may : MayWork v
  pub frame : f < v.post.machine.frames
  pub reference : TypedReference
  pub typed : v.holdings.typed ≡ reference ∷ []
  pub of : reference.frame ≡ f
  pub others : IsEmptyHand (untyped_hand v.holdings)

-- ---- a typed reference
-- The one in hand is named in the first own old word, and so released as what an earlier turn left unfinished.
abbrev pub LetsGo : ℕ → PortValue → PortValue → List Bool → Result (Unit {0}) Stop → Type 0
LetsGo f u w answers answer = (a : PortValue) × Named u a f × Settled None a w answers answer

-- from u to w it is out of the hand: nothing is left there but what the own old words name
abbrev pub LetsGoHand : PortValue → PortValue → Type 0
LetsGoHand u w = Holds u w (record u.holdings { typed = []; old0 = w.holdings.old0; old1 = w.holdings.old1 })

-- ---- one word
-- It was found empty; or emptied, and then had been so meanwhile, or named a frame, which is let go.
pub data EmptiesWord (vcpu k : ℕ) (u : PortValue) : PortValue → List Bool → Result (Unit {0}) Stop → Type 0 where
  empty : (w : PortValue) → Moves u w (Vcpu vcpu k) Load kinds.Look None 0 → EmptiesWord vcpu k u w [] (Ok tt)
  meanwhile : (a w : PortValue) (x : ℕ) → Moves u a (Vcpu vcpu k) Load kinds.Look None x → x ≢ 0 → Moves a w (Vcpu vcpu k) (Store 0) kinds.Context None 0 → EmptiesWord vcpu k u w [] (Ok tt)
  named : (a b w : PortValue) (x f : ℕ) (answers : List Bool) (answer : Result (Unit {0}) Stop) → Moves u a (Vcpu vcpu k) Load kinds.Look None x → x ≢ 0 →
      Moves a b (Vcpu vcpu k) (Store 0) kinds.Context None (f + 1) → LetsGo f b w answers answer → EmptiesWord vcpu k u w answers answer

-- ---- all 34 words of a vCPU that may name a frame: the old ones, the bases, and the pages of the GDT and of the LDT
abbrev pub word_at : ℕ → ℕ
word_at i = if nat_lt i 2 then i + 2 else if nat_lt i 4 then i - 2 else i + 4

-- so many of them were emptied; or the next one stopped it
pub data EmptiesWords (vcpu : ℕ) (u : PortValue) : ℕ → PortValue → List Bool → Result (Unit {0}) Stop → Type 0 where
  none : EmptiesWords vcpu u 0 u [] (Ok tt)
  one_more : (i : ℕ) (x w : PortValue) (answers asked : List Bool) (answer : Result (Unit {0}) Stop) → EmptiesWords vcpu u i x answers (Ok tt) →
      EmptiesWord vcpu (word_at i) x w asked answer → EmptiesWords vcpu u (i + 1) w (asked ++ answers) answer

-- all of them were, or one stopped it
abbrev pub EmptiesTo : ℕ → PortValue → PortValue → List Bool → Result (Unit {0}) Stop → Type 0
EmptiesTo vcpu u w answers (Ok done) = EmptiesWords vcpu u 34 w answers (Ok tt)
EmptiesTo vcpu u w answers (Err e) = (i : ℕ) × (i ≤ 34) × EmptiesWords vcpu u i w answers (Err e)

-- ---- one vCPU
-- It is another domain's; or all its words are empty; or one of them stopped it.
pub data EmptiesOne (d vcpu : ℕ) (u : PortValue) : PortValue → List Bool → Result Bool Stop → Type 0 where
  other : domain_of u.post.machine vcpu ≢ d → EmptiesOne d vcpu u u [] (Ok false)
  emptied : (w : PortValue) (answers : List Bool) → domain_of u.post.machine vcpu ≡ d → EmptiesTo vcpu u w answers (Ok tt) → EmptiesOne d vcpu u w answers (Ok true)
  stopped : (w : PortValue) (answers : List Bool) (e : Stop) → domain_of u.post.machine vcpu ≡ d → EmptiesTo vcpu u w answers (Err e) → EmptiesOne d vcpu u w answers (Err e)
