-- Pins, unpins and bases.
use Rattle.std.proofs.Common.{◌≡◌, List, [], ◌∷◌, false, refl}
use Rattle.xp_words.specs.Entries.{demand_at, demand_of}
use Rattle.xp_words.specs.declared.kind.PageType.TheVariants as kinds
use Rattle.xp_words.specs.declared.ops.Op.{Op}
use Rattle.kind_words.specs.Kinds.{dead_kind, live_kind, work_kind}
use Rattle.table_law.specs.Alone.{OtherType, meet_last, take_at}
use Rattle.table_law.specs.Release.{drop_first, let_go}
use Rattle.script_law.specs.Scripts.{in_order, script_alone}
use Rattle.script_law.specs.Values.{Frames, IsPinned, IsUnpinned, Solo}
use Rattle.script_law.proofs.Pictures.{answers, cell, empty, left, new_base, no, ok, opening, owned, pin_as, pinned, tables, unpin, update}

-- ---- a table is pinned as one of level 1, and a plain frame unpinned
plain_frame : List Op
plain_frame = pin_as 1 5 ∷ unpin 6 ∷ []

plain_answers : answers plain_frame (opening empty) ≡ ok 0 ∷ no (IsUnpinned (dead_kind kinds.None false 0)) ∷ []
unfolding plain_frame script_alone in_order meet_last take_at demand_at demand_of let_go drop_first
plain_answers = refl

plain_share : (left plain_frame (opening empty)).frames.shares 5 ≡ owned 2
unfolding plain_frame script_alone in_order meet_last take_at demand_at demand_of let_go drop_first
plain_share = refl

plain_kind : (left plain_frame (opening empty)).frames.kinds 5 ≡ pinned kinds.L1 1
unfolding plain_frame script_alone in_order meet_last take_at demand_at demand_of let_go drop_first
plain_kind = refl

-- ---- not twice
twice : answers (pin_as 1 4 ∷ pin_as 1 4 ∷ []) (opening tables) ≡ ok 0 ∷ no (IsPinned (pinned kinds.L1 1)) ∷ []
unfolding script_alone in_order meet_last take_at demand_at demand_of let_go drop_first
twice = refl

-- ---- pinned and unpinned: the counts are as before, and what is dead again keeps its type
back : List Op
back = pin_as 1 5 ∷ unpin 5 ∷ []

back_kind : (left back (opening (cell 5 0 0x6003 empty))).frames.kinds 6 ≡ dead_kind kinds.Writable false 0
unfolding back script_alone in_order meet_last take_at demand_at demand_of let_go drop_first
back_kind = refl

back_share : (left back (opening (cell 5 0 0x6003 empty))).frames.shares 6 ≡ owned 1
unfolding back script_alone in_order meet_last take_at demand_at demand_of let_go drop_first
back_share = refl

back_table : (left back (opening (cell 5 0 0x6003 empty))).frames.kinds 5 ≡ dead_kind kinds.L1 false 0
unfolding back script_alone in_order meet_last take_at demand_at demand_of let_go drop_first
back_table = refl

-- ---- a top table that its own tree maps read-only: a plain reference alone
own_tree : Solo
own_tree = opening (cell 1 0 0x2003 (cell 2 0 0x3003 (cell 3 0 0x4003 (cell 4 0 0x1001 empty))))

own_share : (left (pin_as 4 1 ∷ []) own_tree).frames.shares 1 ≡ owned 3
unfolding own_tree script_alone in_order meet_last take_at demand_at demand_of let_go drop_first
own_share = refl

own_kind : (left (pin_as 4 1 ∷ []) own_tree).frames.kinds 1 ≡ pinned kinds.L4 1
unfolding own_tree script_alone in_order meet_last take_at demand_at demand_of let_go drop_first
own_kind = refl

-- ---- a top table that is demanded two levels below itself: it is in work then, and all is given back
circle : Solo
circle = opening (cell 1 0 0x2003 (cell 2 0 0x1003 empty))

circle_answer : answers (pin_as 4 1 ∷ []) circle ≡ no (Frames (OtherType 1 kinds.L2 (work_kind kinds.L4 false 0))) ∷ []
unfolding circle script_alone in_order meet_last take_at demand_at demand_of let_go drop_first
circle_answer = refl

circle_top : (left (pin_as 4 1 ∷ []) circle).frames.shares 1 ≡ owned 1
unfolding circle script_alone in_order meet_last take_at demand_at demand_of let_go drop_first
circle_top = refl

circle_below : (left (pin_as 4 1 ∷ []) circle).frames.shares 2 ≡ owned 1
unfolding circle script_alone in_order meet_last take_at demand_at demand_of let_go drop_first
circle_below = refl

-- ---- a live table that its sibling maps writable: the tree is bad; nothing is held, and the types stay
sibling : Solo
sibling = opening (cell 3 0 0x4003 (cell 3 1 0x5003 (cell 5 0 0x4003 empty)))

sibling_answer : answers (pin_as 2 3 ∷ []) sibling ≡ no (Frames (OtherType 4 kinds.Writable (live_kind kinds.L1 1))) ∷ []
unfolding sibling script_alone in_order meet_last take_at demand_at demand_of let_go drop_first
sibling_answer = refl

sibling_top : (left (pin_as 2 3 ∷ []) sibling).frames.kinds 3 ≡ dead_kind kinds.L2 false 0
unfolding sibling script_alone in_order meet_last take_at demand_at demand_of let_go drop_first
sibling_top = refl

sibling_live : (left (pin_as 2 3 ∷ []) sibling).frames.kinds 4 ≡ dead_kind kinds.L1 false 0
unfolding sibling script_alone in_order meet_last take_at demand_at demand_of let_go drop_first
sibling_live = refl

sibling_share : (left (pin_as 2 3 ∷ []) sibling).frames.shares 4 ≡ owned 1
unfolding sibling script_alone in_order meet_last take_at demand_at demand_of let_go drop_first
sibling_share = refl

-- so a table of it may be written as ordinary memory, and has that type then
sibling_written : List Op
sibling_written = pin_as 2 3 ∷ update 0x4000 0x77 ∷ []

written_answers : answers sibling_written sibling ≡ no (Frames (OtherType 4 kinds.Writable (live_kind kinds.L1 1))) ∷ ok 0 ∷ []
unfolding sibling_written sibling script_alone in_order meet_last take_at demand_at demand_of let_go drop_first
written_answers = refl

written_kind : (left sibling_written sibling).frames.kinds 4 ≡ dead_kind kinds.Writable false 0
unfolding sibling_written sibling script_alone in_order meet_last take_at demand_at demand_of let_go drop_first
written_kind = refl

-- ---- a new base releases the old one, which is dead then
bases : List Op
bases = new_base 1 ∷ new_base 2 ∷ []

new_named : (left bases (opening empty)).own 0 ≡ 3
unfolding bases script_alone in_order meet_last take_at demand_at demand_of let_go drop_first
new_named = refl

new_kind : (left bases (opening empty)).frames.kinds 2 ≡ live_kind kinds.L4 1
unfolding bases script_alone in_order meet_last take_at demand_at demand_of let_go drop_first
new_kind = refl

old_kind : (left bases (opening empty)).frames.kinds 1 ≡ dead_kind kinds.L4 false 0
unfolding bases script_alone in_order meet_last take_at demand_at demand_of let_go drop_first
old_kind = refl

old_share : (left bases (opening empty)).frames.shares 1 ≡ owned 1
unfolding bases script_alone in_order meet_last take_at demand_at demand_of let_go drop_first
old_share = refl

-- ---- a base stays live where its pin is taken off
still_base : List Op
still_base = pin_as 4 1 ∷ new_base 1 ∷ unpin 1 ∷ []

still_kind : (left still_base (opening empty)).frames.kinds 1 ≡ live_kind kinds.L4 1
unfolding still_base script_alone in_order meet_last take_at demand_at demand_of let_go drop_first
still_kind = refl

still_share : (left still_base (opening empty)).frames.shares 1 ≡ owned 2
unfolding still_base script_alone in_order meet_last take_at demand_at demand_of let_go drop_first
still_share = refl
