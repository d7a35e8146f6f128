-- The fields of a pass.
use Rattle.std.specs.Prelude.{◌≡◌, []}
use Rattle.own_cache.specs.Translating.{translating}
use Rattle.thread_board.specs.Sharing.{one, hold_of}
use Rattle.thread_board.specs.Values.{PassValue}
use Rattle.thread_board.specs.declared.pass.Pass.TheInside.{Inside}

abbrev pub pass_of : Inside → PassValue
pass_of p = record { table = p.seat.table_id; vcpu = p.vcpu; holdings = hold_of p.seat.me.0 }

pub record IsPass (p : Inside) : Type 0 where
  pub view : p.seat.me.0 ≡ one p.vcpu (hold_of p.seat.me.0)
  pub slots : p.seat.me.1 ≡ []
  pub kept : p.translations ≡ translating (hold_of p.seat.me.0)
