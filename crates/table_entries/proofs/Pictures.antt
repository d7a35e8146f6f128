-- Worked pictures of the definitions: behind which entries the gate is asked, and what is left of tables that are given up.
use Rattle.std.proofs.Common.{◌≡◌, true, false, [], refl}
use Rattle.partial_state.specs.declared.stack.TableWork.{TableWork}
use Rattle.table_entries.specs.Acquiring.{around_left, is_asked, is_asked_at, table_opened, type_counts}

-- in a top table not in Xen's slots, 256 to 271: so not where 257 to 272 entries are done with
pub asked_before_slots : is_asked_at 4 256 ≡ true
asked_before_slots = refl

pub unasked_at_first_slot : is_asked_at 4 257 ≡ false
unasked_at_first_slot = refl

pub unasked_at_last_slot : is_asked_at 4 272 ≡ false
unasked_at_last_slot = refl

pub asked_behind_slots : is_asked_at 4 273 ≡ true
asked_behind_slots = refl

-- other tables have no such slots
pub asked_below : is_asked_at 3 257 ≡ true
asked_below = refl

-- not behind a table's last entry, nor with no table in work
pub unasked_where_full : is_asked_at 1 512 ≡ false
unasked_where_full = refl

pub unasked_without_tables : is_asked [] ≡ false
unasked_without_tables = refl

-- a table with its own type count, and one beside another holder's
pub one_count : type_counts true ≡ 1
one_count = refl

pub two_counts : type_counts false ≡ 2
two_counts = refl

-- a table at level 3 of which 7 entries are done with, the last of them under way, and the table that this one names
abbrev pub outer : TableWork
outer = record { frame = 4; level = 3; done = 7; own = true; recorded = false }

-- with its own type count the entry stays, recorded with its table
pub own_stays : around_left (table_opened outer 9 5 true false) outer ≡ outer
own_stays = refl

-- without it, and not recorded before, it is not done with any more
pub lent_goes : (around_left (table_opened outer 9 5 false false) outer).done ≡ 6
lent_goes = refl

-- recorded before it stays
pub recorded_stays : around_left (table_opened outer 9 5 false true) outer ≡ outer
recorded_stays = refl

pub inner_level : (table_opened outer 9 5 true false).level ≡ 2
inner_level = refl
