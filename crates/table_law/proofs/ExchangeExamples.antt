-- Small machines: what the plain exchange of an entry answers and leaves.
use Rattle.std.proofs.Common.{◌≡◌, ℕ, ◌==◌, ◌&&◌, if◌then◌else◌, true, false, [], None, Some, refl}
use Rattle.xp_words.specs.declared.kind.KindWord.{KindWord}
use Rattle.xp_words.specs.declared.kind.PageType.TheVariants as kinds
use Rattle.xp_words.specs.Machine.{Machine}
use Rattle.xp_words.specs.Entries.{demand_of, demand_at}
use Rattle.kind_words.specs.Kinds.{live_kind, dead_kind}
use Rattle.table_law.specs.Plain.{Plain, Share}
use Rattle.table_law.specs.Release.{let_go, drop_first}
use Rattle.table_law.specs.Alone.{OtherType, PlainOutcome, take_at}
use Rattle.table_law.specs.Exchange.{exchanged}

machine : Machine
machine = record { frames = 3; limit = 10; page_limit = []; privilege = []; vcpu_domain = [] }

shared : ℕ → Share
shared count = record { owner = 0; allocated = true; count = count }

-- frame 0 is a live table of level 1 under its lock, with one type count for that and one for another use; its first entry maps frame 1 writable
locked : KindWord
locked = record (live_kind kinds.L1 2) { locked = true }

start : Plain
start =
    record {
      shares = λ g. Some (shared (if g == 0 then 3 else if g == 1 then 2 else 1));
      kinds = λ g. if g == 0 then locked else if g == 1 then live_kind kinds.Writable 1 else dead_kind kinds.None false 0;
      cells = λ g i. if (g == 0) && (i == 0) then 0x1003 else 0;
    }

-- its first entry gets another word
got : ℕ → PlainOutcome
got word = exchanged machine 0 (record { table = 0; level = 1; index = 0 }) word start

-- it maps frame 2 read-only: that has a reference more, and frame 1 is let go; the lock is off, with its type count and reference
word_put : (got 0x2001).left.cells 0 0 ≡ 0x2001
unfolding got machine locked shared start take_at demand_at demand_of let_go drop_first
word_put = refl

new_count : (got 0x2001).left.shares 2 ≡ Some (shared 2)
unfolding got machine locked shared start take_at demand_at demand_of let_go drop_first
new_count = refl

old_count : (got 0x2001).left.shares 1 ≡ Some (shared 1)
unfolding got machine locked shared start take_at demand_at demand_of let_go drop_first
old_count = refl

old_kind : (got 0x2001).left.kinds 1 ≡ dead_kind kinds.Writable false 0
unfolding got machine locked shared start take_at demand_at demand_of let_go drop_first
old_kind = refl

lock_off : (got 0x2001).left.kinds 0 ≡ live_kind kinds.L1 1
unfolding got machine locked shared start take_at demand_at demand_of let_go drop_first
lock_off = refl

lock_count : (got 0x2001).left.shares 0 ≡ Some (shared 2)
unfolding got machine locked shared start take_at demand_at demand_of let_go drop_first
lock_count = refl

-- the table does not map itself writable: the entry stays
refused : (got 0x3).refusal ≡ Some (OtherType 0 kinds.Writable locked)
unfolding got machine locked shared start take_at demand_at demand_of let_go drop_first
refused = refl

word_stays : (got 0x3).left.cells 0 0 ≡ 0x1003
unfolding got machine locked shared start take_at demand_at demand_of let_go drop_first
word_stays = refl

lock_goes : (got 0x3).left.kinds 0 ≡ live_kind kinds.L1 1
unfolding got machine locked shared start take_at demand_at demand_of let_go drop_first
lock_goes = refl

-- the same demand, with an accessed bit: the word alone changes
same_kind : (got 0x1023).left.kinds 1 ≡ live_kind kinds.Writable 1
unfolding got machine locked shared start take_at demand_at demand_of let_go drop_first
same_kind = refl
