-- Updates by address: the entry that maps an address is set, and then the translations are dropped that the flags name.
use Rattle.std.specs.Prelude.{◌≡◌, ℕ, zero, suc, ◌<◌, ◌≤◌, ◌%◌, ◌==◌, ◌&&◌, ◌||◌, ◌++◌, not, nat_le, nat_lt, if◌then◌else◌, Bool, true, false, List, [], Option, Some, None, Result, Ok, Err}
use Rattle.xp_words.specs.declared.reply.Pause.TheVariants.{Due}
use Rattle.xp_words.specs.declared.kind.PageType.{PageType}
use Rattle.xp_words.specs.declared.reply.Refusal.{Refusal}
use Rattle.xp_words.specs.declared.reply.Refusal.TheVariants as refusals
use Rattle.xp_words.specs.declared.reply.Stop.{Stop}
use Rattle.xp_words.specs.declared.reply.Stop.TheVariants.{Refused, Paused}
use Rattle.xp_board.specs.Told.{PortValue}
use Rattle.xp_preempt.specs.Gates.{ends_yes, yeses}
use Rattle.foreign_map.specs.declared.owners.Owners.{Owners}
use Rattle.level_release.specs.Course.{WasReleased}
use Rattle.mmu_update.specs.Course.{entry_update}
use Rattle.mmu_update.specs.Exchanges.{Exchanged}
use Rattle.mmu_update.specs.UpdatesAt.{UpdatesAt}
use Rattle.mmuext_ops.specs.Elements.{KnowsAwaited, awaited_by, every_vcpu}
use Rattle.mmuext_ops.specs.declared.element.Element.{Element}
use Rattle.mmuext_ops.specs.declared.element.Element.TheVariants.{FlushLocal, FlushVcpus, Invalidate}
use Rattle.vcpu_turn.specs.Ext.{Performs}
use Rattle.vcpu_turn.specs.Lists.{Tried}
use Rattle.vcpu_turn.specs.Pairs.{FindsOwners}
use Rattle.vcpu_turn.specs.Settling.{Settles, SettlesFirst}

-- ---- flags
-- The low two bits say which own translations are dropped: none (0), all (1), or those of the page (2). Bit 2 says that the vCPUs of the domain are waited for behind
-- that. There is no third way, and no higher bit.
abbrev pub is_bad_flags : ℕ → Bool
is_bad_flags flags = nat_lt 7 flags || (flags % 4 == 3)

abbrev pub own_drop : ℕ → ℕ → Option Element
own_drop flags va = if flags % 4 == 1 then Some FlushLocal else if flags % 4 == 2 then Some (Invalidate va) else None

-- the wait is for those that may have such translations: where none are to be dropped, there is none
abbrev pub waits_for_all : ℕ → Bool
waits_for_all flags = nat_le 4 flags && not (flags % 4 == 0)

-- ---- behind the entry
-- own translations are dropped, by the element of `mmuext_op` that does so, or why not
abbrev pub DropsOwn : ℕ → Option Element → PortValue → PortValue → Result (Unit {0}) Stop → Type 0
DropsOwn d (Some e) v w answer = Performs d e None v w [] answer
DropsOwn d None v w answer = (w ≡ v) × (answer ≡ Ok tt)

-- all vCPUs of the domain are waited for
abbrev pub WaitsForAll : ℕ → Bool → Option ℕ → PortValue → PortValue → Result (Unit {0}) Stop → Type 0
WaitsForAll d true awaited v w answer = Performs d (FlushVcpus every_vcpu) awaited v w [] answer
WaitsForAll d false awaited v w answer = (w ≡ v) × (answer ≡ Ok tt)

pub data DropsBehind (d flags va : ℕ) (v : PortValue) : PortValue → Result (Unit {0}) Stop → Type 0 where
  undropped : (w : PortValue) (e : Stop) → DropsOwn d (own_drop flags va) v w (Err e) → DropsBehind d flags va v w (Err e)
  dropped : (u w : PortValue) (answer : Result (Unit {0}) Stop) → DropsOwn d (own_drop flags va) v u (Ok tt) → WaitsForAll d (waits_for_all flags) None u w answer → DropsBehind d flags va v w answer

-- The entry is done: an operation that is paused behind it goes on with the wait alone. One that is refused there keeps the entry, but is not done.
abbrev pub done_behind : Result (Unit {0}) Stop → ℕ
done_behind (Ok done) = 1
done_behind (Err (Paused p)) = 1
done_behind (Err (Refused x)) = 0

-- past which clock value the wait of one that is paused behind its entry goes on, is known
abbrev pub AwaitsBehind : PortValue → Result (Unit {0}) Stop → Type 0
AwaitsBehind w answer = KnowsAwaited w (awaited_by (FlushVcpus every_vcpu) answer)

abbrev pub AwaitsWhere : PortValue → ℕ → Result (Unit {0}) Stop → Type 0
AwaitsWhere w zero answer = Unit {0}
AwaitsWhere w (suc done) answer = AwaitsBehind w answer

-- own translations are dropped at once
abbrev pub IsUnpaused : Result (Unit {0}) Stop → Type 0
IsUnpaused (Err (Paused p)) = ⊥
IsUnpaused _ = Unit {0}

-- ---- the entry
-- From v to w the entry of domain d was set, or why not: the number that names whose frame is mapped has 16 bits; whose it is is read; the flags are looked at; and then the
-- entry is updated.
pub data UpdatesWord (d foreign va word flags : ℕ) (v : PortValue) : PortValue → List Bool → Result (Unit {0}) Stop → Type 0 where
  far : 65536 ≤ foreign → UpdatesWord d foreign va word flags v v [] (Err (Refused refusals.BadRange))
  unowned : (w : PortValue) (x : Refusal) → foreign < 65536 → FindsOwners v w d foreign (Err x) → UpdatesWord d foreign va word flags v w [] (Err (Refused x))
  flagged : (w : PortValue) (o : Owners) → foreign < 65536 → FindsOwners v w d foreign (Ok o) → is_bad_flags flags ≡ true → UpdatesWord d foreign va word flags v w [] (Err (Refused refusals.BadRange))
  owned : (u w : PortValue) (o : Owners) (answers : List Bool) (answer : Result (Unit {0}) Stop) → foreign < 65536 → FindsOwners v u d foreign (Ok o) → is_bad_flags flags ≡ false → UpdatesAt o va word u w answers answer →
      UpdatesWord d foreign va word flags v w answers answer

-- ---- the operation
-- From v to w an update by address of domain d went on, of which `from` elements were done before and `to` are then: none, or the entry. Until that is set each turn begins anew, behind
-- what is settled first. Then translations are dropped; in later turns the wait goes on.
pub data MapsWord (d foreign va word flags : ℕ) (awaited : Option ℕ) (v : PortValue) : ℕ → ℕ → PortValue → List Bool → Result (Unit {0}) Stop → Type 0 where
  unset : (w : PortValue) (answers : List Bool) (e : Stop) → SettlesFirst (UpdatesWord d foreign va word flags) v w answers (Err e) → MapsWord d foreign va word flags awaited v 0 0 w answers (Err e)
  set : (u w : PortValue) (answers : List Bool) (answer : Result (Unit {0}) Stop) → SettlesFirst (UpdatesWord d foreign va word flags) v u answers (Ok tt) → DropsBehind d flags va u w answer →
      MapsWord d foreign va word flags awaited v 0 (done_behind answer) w answers answer
  waited : (w : PortValue) (answer : Result (Unit {0}) Stop) → WaitsForAll d true awaited v w answer → MapsWord d foreign va word flags awaited v 1 (done_behind answer) w [] answer

-- ---- what it asks the gate
-- Behind what was settled first the entry is set, and the gate paused the release of what the old word asked: within the element the gate said yes at last, and no before. The
-- translations are dropped all the same.
pub record PausesOldEntry (t : Tried) : Type 0 where
  pub owners : Owners
  pub table : ℕ
  pub index : ℕ
  pub word : ℕ
  pub settled : PortValue
  pub held : PortValue
  pub updated : PortValue
  pub before : List Bool
  pub answers : List Bool
  pub settles : Settles None t.before settled before (Ok tt)
  pub exchanged : Exchanged held (entry_update table 1 index word false) owners updated answers (Ok tt)
  pub all : t.asked ≡ answers ++ before
  pub unlocked : PortValue
  pub frame : ℕ
  pub kind : PageType
  pub first : List Bool
  pub more : List Bool
  pub released : WasReleased unlocked frame kind updated more (Err (Paused Due))
  pub asked : t.asked ≡ more ++ first
  pub early : yeses t.asked ≡ 1
  pub last : ends_yes t.asked ≡ true
