-- The traces that a text can spell.
use Rattle.std.specs.Prelude.{◌≡◌, ℕ, ◌+◌, ◌^◌, ◌-◌, ◌<◌, ◌≤◌, ◌==◌, ◌||◌, length, slice_index, All, AllPairs, IsTrue}
use Rattle.xp_words.specs.Machine.{Machine, IsMachine}
use Rattle.xp_words.specs.declared.ops.Op.{Op}
use Rattle.trace_lines.specs.Spelling.{IsSpellableOp}
use Rattle.trace_text.specs.declared.trace.Own.{Own}
use Rattle.trace_text.specs.declared.trace.CellRun.{CellRun}
use Rattle.trace_text.specs.declared.trace.Trace.{Trace}
use Rattle.trace_text.specs.Counted.{numbers_in, extents_of, destroys_of, ops_of, turns_of, pages_of, is_apart}

-- frames of the machine, of one of its domains
pub record IsOwn (m : Machine) (o : Own) : Type 0 where
  pub domain : o.domain < length m.page_limit
  pub some : 1 ≤ o.count
  pub inside : o.first + o.count ≤ m.frames

-- cells of a frame of the machine
pub record IsCellRun (frames : ℕ) (c : CellRun) : Type 0 where
  pub frame : c.frame < frames
  pub some : 1 ≤ c.count
  pub inside : c.first + c.count ≤ 512
  pub word : c.value < 2 ^ 64

-- An operation that a trace of that version may have: every number is below 2^64, and a multicall has a call.
pub record IsOp (version : ℕ) (op : Op) : Type 0 where
  pub spelled : IsSpellableOp version op
  pub numbers : numbers_in op ≤ 8192

pub record IsWellFormed (t : Trace) : Type 0 where
  pub version : IsTrue ((t.version == 1) || (t.version == 2))
  pub machine : IsMachine t.layout
  pub frames : t.version ≡ 1 → t.layout.frames ≤ 4096
  pub some_clock : 1 ≤ t.clock
  pub clock : t.clock < 2 ^ 36 - 1
  pub owned : All (IsOwn t.layout) t.owned
  pub apart : AllPairs (λ a b. IsTrue (is_apart a b)) t.owned
  pub pages : (d : ℕ) → d < length t.layout.page_limit → pages_of d t.owned ≤ slice_index t.layout.page_limit d
  pub cells : All (IsCellRun t.layout.frames) t.cells
  pub scripts : length t.scripts ≡ length t.layout.vcpu_domain
  pub ops : All (λ script. All (IsOp t.version) script) t.scripts
  pub few_ops : ops_of t.scripts ≤ 65536
  pub few_destroys : destroys_of t.scripts ≤ 16
  pub few_extents : extents_of t.scripts ≤ 1000000
  pub turns : All (λ r. r.vcpu < length t.layout.vcpu_domain) t.turns
  pub few_turns : turns_of t.turns ≤ 1000000
