-- What a guest sees of the parts of an exchange.
use Rattle.std.specs.Prelude.{◌≡◌, ◌⊎◌, ℕ, ◌==◌, ◌++◌, Bool, true, false, List, [], ◌∷◌, Option, Some, None, Result, Ok, Err}
use Rattle.xp_words.specs.Machine.{Machine}
use Rattle.xp_words.specs.PageTypes.{is_table}
use Rattle.xp_words.specs.declared.entry.Demand.{Demand}
use Rattle.xp_words.specs.declared.entry.Demand.TheVariants as demands
use Rattle.xp_words.specs.declared.kind.PageType.{PageType}
use Rattle.xp_words.specs.declared.place.Place.TheVariants.{Kind}
use Rattle.xp_words.specs.declared.reply.Stop.{Stop}
use Rattle.xp_board.specs.Told.{PortValue}
use Rattle.step_maker.specs.Moves.{Came, Met}
use Rattle.step_maker.specs.Answers.{Deed, Misses, Serves, SetsEntry, Stops, missed, misses}
use Rattle.step_maker.specs.Asked.{IsAsked, Request, of_table}
use Rattle.step_maker.specs.Finding.{Finding}
use Rattle.level_release.specs.Asking.{is_due_answer}
use Rattle.table_entries.specs.Asking.{of_entries}
use Rattle.entry_exchange.specs.Asking.{IsHidden}
use Rattle.entry_exchange.specs.Course.{SawEntry}

-- ---- demands as requests
abbrev pub is_named : Demand → ℕ → Bool
is_named (demands.Read f) g = g == f
is_named (demands.Typed f t) g = g == f
is_named _ g = false

abbrev pub wanted_type : Demand → Option PageType
wanted_type (demands.Typed f t) = Some t
wanted_type _ = None

-- it is a table, whose entries ask frames in turn
abbrev pub asks_table : Demand → Bool
asks_table (demands.Typed f t) = is_table t
asks_table _ = false

-- the frame for its type, and of a table what the entries of tables ask; a mark of its own may be taken back
abbrev pub of_demand : Demand → ℕ → ℕ → Bool → Request
of_demand d owner pages rose = record (of_table 0 owner (wanted_type d) pages rose) { names = is_named d; locks = true; entries = asks_table d }

-- it is given back, and what recorded entries hold; the gate may have said yes
abbrev pub of_given : Demand → ℕ → ℕ → Request
of_given d owner pages = record (of_entries owner pages) { backs = is_named d; rose = true }

-- the frame that it names is asked
abbrev pub AsksDemand : Machine → ℕ → Request → Finding → Demand → Type 0
AsksDemand n s r F (demands.Read f) = IsAsked n s r F f
AsksDemand n s r F (demands.Typed f t) = IsAsked n s r F f
AsksDemand n s r F _ = Unit {0}

-- ---- taken
-- the exchange that was lost, beside that for which it is paused: one that was to take a mark back
abbrev pub Hides : Result (Unit {0}) Stop → List Deed → Type 0
Hides (Ok done) ds = ds ≡ []
Hides (Err e) ds = IsHidden e ds

pub record ServesTaken (v w : PortValue) (d : Demand) (owner pages : ℕ) (answer : Result (Unit {0}) Stop) : Type 0 where
  pub hidden : List Deed
  pub may : Hides answer hidden
  pub serves : Serves v w (of_demand d owner pages (is_due_answer answer)) (hidden ++ misses v.post.machine answer)

-- ---- given back
-- Behind any piece that asks the frame, and may take marks off, the steps serve that piece. An exchange may be lost that is to take the mark
-- of a table back.
pub record ServesDemandBehind (u w : PortValue) (r : Request) (ds : List Deed) : Type 0 where
  pub more : List Deed
  pub hidden : (more ≡ []) ⊎ ((f : ℕ) × (more ≡ Misses (Kind f) ∷ []))
  pub serves : Serves u w r (more ++ ds)

abbrev pub ServesGiven : PortValue → PortValue → Demand → Type 0
ServesGiven v w d = (u : PortValue) (r : Request) (ds : List Deed) → Serves u v r ds → AsksDemand u.post.machine u.post.vcpu r (Met u v) d → r.locks ≡ true → ServesDemandBehind u w r ds

abbrev pub ServesTable : PortValue → PortValue → ℕ → Type 0
ServesTable v w f = (u : PortValue) (r : Request) (ds : List Deed) → Serves u v r ds → IsAsked u.post.machine u.post.vcpu r (Met u v) f → r.locks ≡ true → ServesDemandBehind u w r ds

-- ---- put there
-- the one deed of an exchange, or the one that was lost
abbrev pub put_deeds : Machine → ℕ → ℕ → ℕ → Result ℕ Stop → List Deed
put_deeds n f i new (Ok old) = SetsEntry f i old new ∷ []
put_deeds n f i new (Err e) = missed n e

-- behind any piece that asks the table
abbrev pub ServesPut : PortValue → PortValue → ℕ → ℕ → ℕ → Result ℕ Stop → Type 0
ServesPut v w f i new answer =
    (u : PortValue) (r : Request) (ds : List Deed) → Serves u v r ds → IsAsked u.post.machine u.post.vcpu r (Met u v) f → Serves u w r (put_deeds v.post.machine f i new answer ++ ds)

-- a lost exchange is shown, where the steps from a on saw the entry and ask the table
abbrev pub StopsPut : PortValue → PortValue → ℕ → ℕ → ℕ → Stop → Type 0
StopsPut v w f i seen e = (a b : PortValue) (r : Request) → SawEntry a b f i seen → Came b v → IsAsked a.post.machine a.post.vcpu r (Met a v) f → Stops a w r e
