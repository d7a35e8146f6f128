-- The port of a pass as contracts see it.
use Rattle.std.specs.Prelude.{ℕ, None}
use Rattle.xp_words.specs.Places.{sizes_of, memory, run_of}
use Rattle.xp_board.specs.Told.{PortValue}
use Rattle.thread_board.specs.Values.{BoardValue, PassValue}

-- it does not tell the words. The borrow of the pass has that name
abbrev pub pass_port : BoardValue → PassValue → ℕ → PortValue
pass_port b p lender =
    record {
      post = record { machine = b.machine; vcpu = p.vcpu; run = memory (sizes_of b.machine) b.opening (run_of p.vcpu); lender = lender; table = b.table };
      holdings = p.holdings;
      told = None;
    }
