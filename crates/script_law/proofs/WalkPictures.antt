-- What goes by addresses: reads, writes, updates of the entry that maps an address.
use Rattle.std.proofs.Common.{◌≡◌, List, [], ◌∷◌, true, false, refl}
use Rattle.xp_words.specs.Entries.{demand_at, demand_of}
use Rattle.xp_words.specs.declared.ops.Call.TheVariants as calls
use Rattle.xp_words.specs.declared.ops.Op.{Op}
use Rattle.xp_words.specs.declared.ops.Op.TheVariants as ops
use Rattle.xp_words.specs.declared.reply.Refusal.TheVariants.{BadRange, NonCanonical, NotMapped, ReadOnly, Slot}
use Rattle.table_law.specs.Alone.{meet_last, take_at}
use Rattle.table_law.specs.Release.{drop_first, let_go}
use Rattle.script_law.specs.Scripts.{in_order, script_alone}
use Rattle.script_law.specs.Values.{Numbers}
use Rattle.script_law.specs.Walks.{last_table, path}
use Rattle.script_law.proofs.Pictures.{answers, empty, left, new_base, no, ok, opening, owned, tables, update}

-- ---- A store sets accessed and dirty bits, which loads through the table's mapping of itself read; an update that keeps them keeps them.
accesses : List Op
accesses = new_base 1 ∷ ops.Write false 0 0x77 ∷ ops.Read false 0x1000 ∷ ops.Read false 0x1008 ∷ update 0x4002 0x6003 ∷ ops.Read false 0x1000 ∷ []

bits : answers accesses (opening tables) ≡ ok 0 ∷ ok 0 ∷ ok 0x5063 ∷ ok 0x4021 ∷ ok 0 ∷ ok 0x6063 ∷ []
unfolding accesses script_alone in_order path meet_last take_at demand_at demand_of let_go drop_first
bits = refl

stored : (left accesses (opening tables)).frames.cells 5 0 ≡ 0x77
unfolding accesses script_alone in_order path meet_last take_at demand_at demand_of let_go drop_first
stored = refl

-- a load alone leaves the accessed bit, in each table on its way
loads : List Op
loads = new_base 1 ∷ ops.Read false 0 ∷ []

loaded_last : (left loads (opening tables)).frames.cells 4 0 ≡ 0x5023
unfolding loads script_alone in_order path meet_last take_at demand_at demand_of let_go drop_first
loaded_last = refl

loaded_top : (left loads (opening tables)).frames.cells 1 0 ≡ 0x2023
unfolding loads script_alone in_order path meet_last take_at demand_at demand_of let_go drop_first
loaded_top = refl

-- ---- a write through a read-only entry is refused, and has set no dirty bit
barred : List Op
barred = new_base 1 ∷ ops.Write false 0x1000 0x77 ∷ ops.Read false 0x1008 ∷ []

barred_answers : answers barred (opening tables) ≡ ok 0 ∷ no (Numbers (ReadOnly 0x4001)) ∷ ok 0x4021 ∷ []
unfolding barred script_alone in_order path meet_last take_at demand_at demand_of let_go drop_first
barred_answers = refl

-- ---- addresses that no walk can use
unusable : List Op
unusable = ops.Read false 0x800000000000 ∷ ops.Read false 0xffff800000000000 ∷ ops.Read false 0 ∷ ops.Write false 4 1 ∷ []

unusable_answers : answers unusable (opening empty) ≡ no (Numbers NonCanonical) ∷ no (Numbers (Slot 256)) ∷ no (Numbers (NotMapped 5 0)) ∷ no (Numbers BadRange) ∷ []
unfolding unusable script_alone path
unusable_answers = refl

-- ---- the entry that maps an address, set: the flags drop translations, of which there are none
remaps : List Op
remaps = new_base 1 ∷ ops.One (calls.Va 0 0x6003 2) ∷ ops.Write false 0 0x55 ∷ ops.One (calls.Va 0x200000 0x7003 0) ∷ ops.One (calls.Va 0 0 3) ∷ []

remaps_answers : answers remaps (opening tables) ≡ ok 0 ∷ ok 0 ∷ ok 0 ∷ no (Numbers (NotMapped 2 0)) ∷ no (Numbers BadRange) ∷ []
unfolding remaps script_alone in_order path last_table meet_last take_at demand_at demand_of let_go drop_first
remaps_answers = refl

remapped : (left remaps (opening tables)).frames.cells 6 0 ≡ 0x55
unfolding remaps script_alone in_order path last_table meet_last take_at demand_at demand_of let_go drop_first
remapped = refl

unmapped_share : (left remaps (opening tables)).frames.shares 5 ≡ owned 1
unfolding remaps script_alone in_order path last_table meet_last take_at demand_at demand_of let_go drop_first
unmapped_share = refl
