-- Updates: machine-to-physical words, entries of live tables, words of memory; in a list of their own, and in a multicall.
use Rattle.std.proofs.Common.{◌≡◌, List, [], ◌∷◌, Some, None, false, refl}
use Rattle.xp_words.specs.Entries.{demand_at, demand_of}
use Rattle.xp_words.specs.declared.kind.PageType.TheVariants as kinds
use Rattle.xp_words.specs.declared.ops.Op.{Op}
use Rattle.xp_words.specs.declared.ops.Op.TheVariants as ops
use Rattle.xp_words.specs.declared.ops.Call.TheVariants as calls
use Rattle.xp_words.specs.declared.reply.Refusal.TheVariants.{BadCommand, BadRange, Slot}
use Rattle.kind_words.specs.Kinds.{dead_kind, live_kind}
use Rattle.table_law.specs.Alone.{NoFrame, OtherType, WrongOwner, meet_last, take_at}
use Rattle.table_law.specs.Release.{drop_first, let_go}
use Rattle.script_law.specs.Scripts.{calls_in_order, in_order, script_alone}
use Rattle.script_law.specs.Values.{Called, Frames, IsPinned, Numbers, Solo}
use Rattle.script_law.proofs.Pictures.{answers, cell, empty, ext, ext_call, left, lines, no, ok, opening, owned, pin_as, pinned, update, update_call}

-- ---- a machine-to-physical word; of a free frame, and of none
maps : List Op
maps = update 0x1 7 ∷ update 0xc001 1 ∷ update 0x10001 9 ∷ []

maps_answers : answers maps (opening empty) ≡ ok 0 ∷ no (Frames (WrongOwner 12 None)) ∷ no (Frames (NoFrame 16)) ∷ []
unfolding maps script_alone in_order
maps_answers = refl

map_set : (left maps (opening empty)).maps 0 ≡ 7
unfolding maps script_alone in_order
map_set = refl

-- ---- an entry of a pinned table maps frame 6 writable, and then frame 7 read-only
entries : List Op
entries = pin_as 1 5 ∷ update 0x5000 0x6003 ∷ update 0x5000 0x7001 ∷ []

entry_set : (left entries (opening empty)).frames.cells 5 0 ≡ 0x7001
unfolding entries script_alone in_order meet_last take_at demand_at demand_of let_go drop_first
entry_set = refl

old_kind : (left entries (opening empty)).frames.kinds 6 ≡ dead_kind kinds.Writable false 0
unfolding entries script_alone in_order meet_last take_at demand_at demand_of let_go drop_first
old_kind = refl

old_share : (left entries (opening empty)).frames.shares 6 ≡ owned 1
unfolding entries script_alone in_order meet_last take_at demand_at demand_of let_go drop_first
old_share = refl

new_share : (left entries (opening empty)).frames.shares 7 ≡ owned 2
unfolding entries script_alone in_order meet_last take_at demand_at demand_of let_go drop_first
new_share = refl

-- the table itself is as it was
table_kind : (left entries (opening empty)).frames.kinds 5 ≡ pinned kinds.L1 1
unfolding entries script_alone in_order meet_last take_at demand_at demand_of let_go drop_first
table_kind = refl

-- ---- the table does not map itself writable: the entry stays
itself : List Op
itself = pin_as 1 5 ∷ update 0x5000 0x5003 ∷ []

itself_set : (left itself (opening empty)).frames.cells 5 0 ≡ 0
unfolding itself script_alone in_order meet_last take_at demand_at demand_of let_go drop_first
itself_set = refl

itself_share : (left itself (opening empty)).frames.shares 5 ≡ owned 2
unfolding itself script_alone in_order meet_last take_at demand_at demand_of let_go drop_first
itself_share = refl

-- ---- slots 256 to 271 of a top table
slots : List Op
slots = pin_as 4 1 ∷ update 0x17f8 0x2003 ∷ update 0x1800 0x2003 ∷ update 0x1878 0x2003 ∷ update 0x1880 0x2003 ∷ []

slots_answers : answers slots (opening empty) ≡ ok 0 ∷ ok 0 ∷ no (Numbers (Slot 256)) ∷ no (Numbers (Slot 271)) ∷ ok 0 ∷ []
unfolding slots script_alone in_order meet_last take_at demand_at demand_of let_go drop_first
slots_answers = refl

slots_kind : (left slots (opening empty)).frames.kinds 2 ≡ live_kind kinds.L3 2
unfolding slots script_alone in_order meet_last take_at demand_at demand_of let_go drop_first
slots_kind = refl

-- ---- words of memory, a page copied, and one cleared
pages : List Op
pages = update 0x5000 0x1234 ∷ ext 17 6 5 ∷ ext 16 5 0 ∷ []

copied : (left pages (opening empty)).frames.cells 6 0 ≡ 0x1234
unfolding pages script_alone in_order take_at let_go
copied = refl

cleared : (left pages (opening empty)).frames.cells 5 0 ≡ 0
unfolding pages script_alone in_order take_at let_go
cleared = refl

page_kind : (left pages (opening empty)).frames.kinds 6 ≡ dead_kind kinds.Writable false 0
unfolding pages script_alone in_order take_at let_go
page_kind = refl

-- ---- a multicall of an update and two pins: the refused one is answered, too
three : List Op
three = ops.Multi (update_call 0x1 7 ∷ ext_call 0 5 0 ∷ ext_call 0 5 0 ∷ []) ∷ []

three_lines : lines three (opening empty) ≡ (Called 1 (ok 0) ∷ Called 2 (ok 0) ∷ Called 3 (no (IsPinned (pinned kinds.L1 1))) ∷ []) ∷ []
unfolding three script_alone calls_in_order in_order meet_last take_at demand_at demand_of let_go drop_first
three_lines = refl

three_answer : answers three (opening empty) ≡ record { done = 3; value = 0; refusal = None } ∷ []
unfolding three script_alone calls_in_order in_order meet_last take_at demand_at demand_of let_go drop_first
three_answer = refl

-- a refused call is followed by the next
goes_on : List Op
goes_on = ops.Multi (ext_call 0 5 0 ∷ ext_call 0 5 0 ∷ update_call 0x1 7 ∷ []) ∷ []

goes_on_set : (left goes_on (opening empty)).maps 0 ≡ 7
unfolding goes_on script_alone calls_in_order in_order meet_last take_at demand_at demand_of let_go drop_first
goes_on_set = refl

-- ---- a list ends at the first pair that is refused
ends : List Op
ends = ops.One (calls.Mmu 0x7ff0 (record { ptr = 0x1; val = 7 } ∷ record { ptr = 0x4; val = 8 } ∷ record { ptr = 0x1; val = 9 } ∷ [])) ∷ []

ends_answer : answers ends (opening empty) ≡ record { done = 1; value = 0; refusal = Some (Numbers BadRange) } ∷ []
unfolding ends script_alone in_order
ends_answer = refl

ends_set : (left ends (opening empty)).maps 0 ≡ 7
unfolding ends script_alone in_order
ends_set = refl

-- ---- what is not built
unbuilt : answers (ops.Grant 1 0 ∷ []) (opening empty) ≡ no (Numbers BadCommand) ∷ []
unfolding script_alone
unbuilt = refl
