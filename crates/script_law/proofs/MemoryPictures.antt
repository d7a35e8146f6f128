-- Frames given back and blocks claimed; descriptor pages; a domain destroyed.
use Rattle.std.proofs.Common.{◌≡◌, ℕ, ◌^◌, ◌-◌, ◌==◌, ◌&&◌, List, [], ◌∷◌, if◌then◌else◌, true, false, Some, None, refl}
use Rattle.std.specs.Prelude.{map, nat_lt}
use Rattle.xp_words.specs.Entries.{demand_at, demand_of}
use Rattle.xp_words.specs.declared.kind.PageType.TheVariants as kinds
use Rattle.xp_words.specs.declared.ops.Call.TheVariants as calls
use Rattle.xp_words.specs.declared.ops.Op.{Op}
use Rattle.xp_words.specs.declared.ops.Op.TheVariants as ops
use Rattle.xp_words.specs.declared.reply.Refusal.TheVariants.{BadRange, DomainFull, Dying}
use Rattle.xp_board.specs.Sums.{sum_below}
use Rattle.kind_words.specs.Kinds.{dead_kind, live_kind}
use Rattle.table_law.specs.Alone.{WrongOwner, meet_last, take_at}
use Rattle.table_law.specs.Release.{drop_first, let_go}
use Rattle.script_law.specs.Destroying.{left_below}
use Rattle.script_law.specs.Memory.{return_frames}
use Rattle.script_law.specs.Repeats.{all_below, each_below, first_of}
use Rattle.script_law.specs.Scripts.{Logged, in_order, script_alone}
use Rattle.script_law.specs.Values.{Frames, Given, Left, Numbers, Solo, Whose}
use Rattle.script_law.proofs.Pictures.{answers, cell, empty, left, lines, memory, no, ok, opening, owned, pin_as, unpin, update}

-- ---- the second extent is given back; then a block of two frames is given, and one of eight passes the page limit
blocks : List Op
blocks = update 0x7001 0x55 ∷ memory 65 0 (6 ∷ 7 ∷ []) ∷ memory 0 1 (1 ∷ []) ∷ memory 0 3 (1 ∷ []) ∷ memory 6 0 (5 ∷ []) ∷ []

blocks_answers : answers blocks (opening empty) ≡ ok 0 ∷ record { done = 2; value = 0; refusal = None } ∷ ok 0 ∷ no (Numbers (DomainFull 9)) ∷ ok 0 ∷ []
unfolding blocks script_alone in_order return_frames first_of all_below sum_below
blocks_answers = refl

blocks_lines : lines blocks (opening empty) ≡ [] ∷ [] ∷ (Given 0 0 8 ∷ []) ∷ [] ∷ (Given 0 0 7 ∷ []) ∷ []
unfolding blocks script_alone in_order return_frames first_of all_below sum_below
blocks_lines = refl

block_share : (left blocks (opening empty)).frames.shares 9 ≡ owned 1
unfolding blocks script_alone in_order return_frames first_of all_below sum_below
block_share = refl

block_map : (left blocks (opening empty)).maps 7 ≡ 5
unfolding blocks script_alone in_order return_frames first_of all_below sum_below
block_map = refl

-- ---- a frame that is given back is free, and its machine-to-physical word stays
gone : List Op
gone = update 0x7001 0x55 ∷ memory 1 0 (7 ∷ []) ∷ []

gone_share : (left gone (opening empty)).frames.shares 7 ≡ None
unfolding gone script_alone in_order return_frames
gone_share = refl

gone_map : (left gone (opening empty)).maps 7 ≡ 0x55
unfolding gone script_alone in_order return_frames
gone_map = refl

-- ---- a block is given clean
clean : List Op
clean = update 0x7000 0x99 ∷ memory 1 0 (7 ∷ []) ∷ memory 6 0 (5 ∷ []) ∷ []

clean_cell : (left clean (opening empty)).frames.cells 7 0 ≡ 0
unfolding clean script_alone in_order return_frames first_of all_below sum_below take_at let_go
clean_cell = refl

-- ---- one that is mapped still is the domain's until it is not, and is not given back twice
mapped : List Op
mapped = pin_as 1 5 ∷ memory 1 0 (6 ∷ []) ∷ memory 1 0 (6 ∷ []) ∷ unpin 5 ∷ []

mapped_answers : answers mapped (opening (cell 5 0 0x6001 empty)) ≡ ok 0 ∷ ok 0 ∷ no (Frames (WrongOwner 6 (Some (record { owner = 0; allocated = false; count = 1 })))) ∷ ok 0 ∷ []
unfolding mapped script_alone in_order return_frames meet_last take_at demand_at demand_of let_go drop_first
mapped_answers = refl

mapped_share : (left mapped (opening (cell 5 0 0x6001 empty))).frames.shares 6 ≡ None
unfolding mapped script_alone in_order return_frames meet_last take_at demand_at demand_of let_go drop_first
mapped_share = refl

-- ---- a domain is destroyed by another one, which maps a frame of it
two : Whose
two = record { machine = record { frames = 8; limit = 100; page_limit = 8 ∷ 8 ∷ []; privilege = 2 ∷ 0 ∷ []; vcpu_domain = 0 ∷ [] }; domain = 0 }

both : Solo
both =
    record (opening empty) {
      frames = record { shares = λ g. Some (record { owner = if nat_lt g 4 then 0 else 1; allocated = true; count = 1 }); kinds = λ g. dead_kind kinds.None false 0; cells = empty };
      privileges = λ d. if d == 0 then 2 else 0;
    }

destroys : List Op
destroys = pin_as 1 3 ∷ ops.One (calls.Mmu 1 (record { ptr = 0x3000; val = 0x5001 } ∷ [])) ∷ ops.Destroy 1 ∷ ops.Destroy 1 ∷ []

destroyed_answers : map (λ (l : Logged). l.answer) (script_alone two destroys both).log ≡ ok 0 ∷ ok 0 ∷ ok 1 ∷ no (Numbers (Dying 1 255)) ∷ []
unfolding two both destroys script_alone in_order each_below left_below meet_last take_at demand_at demand_of let_go drop_first
destroyed_answers = refl

destroyed_lines : map (λ (l : Logged). l.lines) (script_alone two destroys both).log ≡ [] ∷ [] ∷ (Left 5 (record { owner = 1; allocated = false; count = 1 }) ∷ []) ∷ [] ∷ []
unfolding two both destroys script_alone in_order each_below left_below meet_last take_at demand_at demand_of let_go drop_first
destroyed_lines = refl

destroyed_share : (script_alone two destroys both).left.frames.shares 4 ≡ None
unfolding two both destroys script_alone in_order each_below left_below meet_last take_at demand_at demand_of let_go drop_first
destroyed_share = refl

-- ---- a domain that dies itself is answered nothing else
dies : answers (pin_as 1 3 ∷ []) (record (opening empty) { lives = λ d. 2 }) ≡ no (Numbers (Dying 0 2)) ∷ []
unfolding script_alone
dies = refl
