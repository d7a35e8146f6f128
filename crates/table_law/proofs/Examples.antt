-- Small machines: what the plain acquisition answers and leaves.
use Rattle.std.proofs.Common.{◌≡◌, ℕ, ◌==◌, if◌then◌else◌, true, false, [], Some, refl}
use Rattle.xp_words.specs.declared.kind.PageType.TheVariants as kinds
use Rattle.xp_words.specs.Machine.{Machine}
use Rattle.xp_words.specs.Entries.{demand_of, demand_at}
use Rattle.kind_words.specs.Kinds.{live_kind, work_kind, dead_kind}
use Rattle.table_law.specs.Plain.{Plain, Share}
use Rattle.table_law.specs.Release.{let_go, drop_first}
use Rattle.table_law.specs.Alone.{WrongOwner, CountFull, OtherType, Reserved, PlainOutcome, alone, meet_last, take_at}

machine : ℕ → Machine
machine limit = record { frames = 3; limit = limit; page_limit = []; privilege = []; vcpu_domain = [] }

one : Share
one = record { owner = 0; allocated = true; count = 1 }

-- all frames of domain 0, dead, of no type; entries 0 and 1 of frame 0
start : ℕ → ℕ → Plain
start a b = record { shares = λ g. Some one; kinds = λ g. dead_kind kinds.None false 0; cells = λ g i. if g == 0 then (if i == 0 then a else if i == 1 then b else 0) else 0 }

-- frame 0 as an L1 table
acquired : ℕ → ℕ → ℕ → PlainOutcome
acquired limit a b = alone (machine limit) 0 1 0 (start a b)

-- it maps itself writable
itself : (acquired 10 0x3 0).refusal ≡ Some (OtherType 0 kinds.Writable (work_kind kinds.L1 false 0))
unfolding acquired machine start one meet_last take_at demand_at demand_of
itself = refl

-- it maps itself read-only: one reference more
read : ((acquired 10 0x1 0).left.shares 0) ≡ Some (record { owner = 0; allocated = true; count = 3 })
unfolding acquired machine start one meet_last take_at demand_at demand_of
read = refl

-- frame 1 twice
twice : ((acquired 10 0x1003 0x1003).left.kinds 1) ≡ live_kind kinds.Writable 2
unfolding acquired machine start one meet_last take_at demand_at demand_of
twice = refl

-- not with a limit of 2
full : (acquired 2 0x1003 0x1003).refusal ≡ Some (CountFull 1 (record { owner = 0; allocated = true; count = 2 }))
unfolding acquired machine start one meet_last take_at demand_at demand_of
full = refl

-- what was taken is given back, and the types stay
back_count : ((acquired 10 0x1003 0x3).left.shares 1) ≡ Some one
unfolding acquired machine start one meet_last take_at demand_at demand_of let_go drop_first
back_count = refl

back_kind : ((acquired 10 0x1003 0x3).left.kinds 1) ≡ dead_kind kinds.Writable false 0
unfolding acquired machine start one meet_last take_at demand_at demand_of let_go drop_first
back_kind = refl

back_table : ((acquired 10 0x1003 0x3).left.kinds 0) ≡ dead_kind kinds.L1 false 0
unfolding acquired machine start one meet_last take_at demand_at demand_of let_go drop_first
back_table = refl

-- the last entry is looked at, too
last_bad : Plain
last_bad = record { shares = λ g. Some one; kinds = λ g. dead_kind kinds.None false 0; cells = λ g i. if g == 0 then (if i == 511 then 0x81 else 0) else 0 }

last_is_read : (alone (machine 10) 0 1 0 last_bad).refusal ≡ Some (Reserved 0 511 0x81)
unfolding machine last_bad one meet_last take_at demand_at demand_of
last_is_read = refl

-- frame 1 is another domain's
foreign : Plain
foreign = record { shares = λ g. Some (record { owner = if g == 1 then 1 else 0; allocated = true; count = 1 }); kinds = λ g. dead_kind kinds.None false 0; cells = λ g i. 0x1003 }

not_foreign : (alone (machine 10) 0 1 0 foreign).refusal ≡ Some (WrongOwner 1 (Some (record { owner = 1; allocated = true; count = 1 })))
unfolding machine foreign meet_last take_at demand_at demand_of
not_foreign = refl

-- frame 1 is live as a table: its type stays, and the reference that was taken for it goes
table : Plain
table = record { shares = λ g. Some one; kinds = λ g. if g == 1 then live_kind kinds.L1 1 else dead_kind kinds.None false 0; cells = λ g i. if g == 0 then 0x1003 else 0 }

not_table : (alone (machine 10) 0 1 0 table).refusal ≡ Some (OtherType 1 kinds.Writable (live_kind kinds.L1 1))
unfolding machine table one meet_last take_at demand_at demand_of
not_table = refl

table_count : ((alone (machine 10) 0 1 0 table).left.shares 1) ≡ Some one
unfolding machine table one meet_last take_at demand_at demand_of let_go drop_first
table_count = refl

-- frame 1 is closing: it has its type still, and is not counted
closing : Plain
closing = record { shares = λ g. Some one; kinds = λ g. if g == 1 then live_kind kinds.Writable 0 else dead_kind kinds.None false 0; cells = λ g i. if g == 0 then 0x1003 else 0 }

not_closing : (alone (machine 10) 0 1 0 closing).refusal ≡ Some (OtherType 1 kinds.Writable (live_kind kinds.Writable 0))
unfolding machine closing one meet_last take_at demand_at demand_of
not_closing = refl
