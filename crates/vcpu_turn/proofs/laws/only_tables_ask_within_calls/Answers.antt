use Rattle.std.proofs.Common.{get_or}
use Rattle.vcpu_turn.specs.Asking.{calls_of}
use Rattle.vcpu_turn.proofs.CallPairs.{call_counts, call_silent, call_within}
use Rattle.vcpu_turn.proofs.laws.only_tables_ask_within_calls.Goals as goal

pub returns-clause-tables : goal.returns-clause-tables
returns-clause-tables x c d end v w answers turn k g less foreign pairs is = call_silent foreign pairs (get_or (calls_of turn) k g) is

pub returns-clause-counts : goal.returns-clause-counts
returns-clause-counts x c d end v w answers turn k g less foreign pairs is off = call_counts foreign pairs (get_or (calls_of turn) k g) is off

pub returns-clause-stops : goal.returns-clause-stops
returns-clause-stops x c d foreign pairs end v w before answers says turn gives later earlier g at is off j some less is_yes =
    call_within c d foreign pairs end v w before answers says turn gives later earlier g at is off j some less is_yes
