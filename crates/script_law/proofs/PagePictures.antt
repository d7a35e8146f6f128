-- Descriptor pages: the GDT, single descriptors, and the LDT.
use Rattle.std.proofs.Common.{◌≡◌, List, [], ◌∷◌, Some, None, false, refl}
use Rattle.xp_words.specs.ContextWords.{ldt_read, ldt_write}
use Rattle.xp_words.specs.Entries.{demand_at, demand_of, fixed}
use Rattle.xp_words.specs.declared.kind.PageType.TheVariants as kinds
use Rattle.xp_words.specs.declared.ops.Call.TheVariants as calls
use Rattle.xp_words.specs.declared.ops.Op.{Op}
use Rattle.xp_words.specs.declared.ops.Op.TheVariants as ops
use Rattle.xp_words.specs.declared.reply.Refusal.TheVariants.{BadDescriptor, BadRange}
use Rattle.kind_words.specs.Kinds.{dead_kind, live_kind}
use Rattle.table_law.specs.Alone.{OtherType, meet_last, take_at}
use Rattle.table_law.specs.Release.{drop_first, let_go}
use Rattle.script_law.specs.Pages.{get_pages}
use Rattle.script_law.specs.Repeats.{each_below, first_of}
use Rattle.script_law.specs.Scripts.{in_order, script_alone}
use Rattle.script_law.specs.Values.{Frames, Numbers}
use Rattle.script_law.specs.Walks.{path}
use Rattle.script_law.proofs.Pictures.{answers, cell, empty, ext, left, new_base, no, ok, opening, owned, pin_as, tables}

-- ---- a GDT of one page, a descriptor written in its fixed form, and one at no word's address
gdt : List Op
gdt = ops.One (calls.Gdt 1 (5 ∷ [])) ∷ ops.One (calls.Desc 0x5008 0xaf9a000000ffff) ∷ ops.One (calls.Desc 0x5004 0) ∷ []

gdt_answers : answers gdt (opening empty) ≡ ok 0 ∷ ok 0 ∷ no (Numbers BadRange) ∷ []
unfolding gdt script_alone get_pages each_below first_of fixed take_at let_go
gdt_answers = refl

gdt_word : (left gdt (opening empty)).frames.cells 5 1 ≡ 0xaffa000000ffff
unfolding gdt script_alone get_pages each_below first_of fixed take_at let_go
gdt_word = refl

gdt_kind : (left gdt (opening empty)).frames.kinds 5 ≡ live_kind kinds.Desc 1
unfolding gdt script_alone get_pages each_below first_of fixed take_at let_go
gdt_kind = refl

gdt_named : (left gdt (opening empty)).own 8 ≡ 6
unfolding gdt script_alone get_pages each_below first_of fixed take_at let_go
gdt_named = refl

-- ---- a page with a bad descriptor: the pages before it are given back, with the type that they had been given, and the GDT is unchanged
bad : List Op
bad = ops.One (calls.Gdt 513 (6 ∷ 5 ∷ [])) ∷ []

bad_answer : answers bad (opening (cell 5 2 0x8c0000000000 empty)) ≡ no (Numbers (BadDescriptor 5 2 0x8c0000000000)) ∷ []
unfolding bad script_alone get_pages each_below first_of fixed
bad_answer = refl

bad_before : (left bad (opening (cell 5 2 0x8c0000000000 empty))).frames.kinds 6 ≡ dead_kind kinds.Desc false 0
unfolding bad script_alone get_pages each_below first_of fixed
bad_before = refl

bad_share : (left bad (opening (cell 5 2 0x8c0000000000 empty))).frames.shares 6 ≡ owned 1
unfolding bad script_alone get_pages each_below first_of fixed
bad_share = refl

-- ---- no page that is mapped writable is one of descriptors; a descriptor goes into it as any word does, where it has a fixed form
writable : List Op
writable = pin_as 1 4 ∷ ops.One (calls.Gdt 1 (5 ∷ [])) ∷ ops.One (calls.Desc 0x5008 0xaf9a000000ffff) ∷ ops.One (calls.Desc 0x5008 0x8c0000000000) ∷ []

writable_answers :
    answers writable (opening (cell 4 0 0x5003 empty)) ≡ ok 0 ∷ no (Frames (OtherType 5 kinds.Desc (live_kind kinds.Writable 1))) ∷ ok 0 ∷ no (Numbers (BadDescriptor 5 1 0x8c0000000000)) ∷ []
unfolding writable script_alone in_order get_pages each_below first_of fixed meet_last take_at demand_at demand_of let_go drop_first
writable_answers = refl

writable_word : (left writable (opening (cell 4 0 0x5003 empty))).frames.cells 5 1 ≡ 0xaffa000000ffff
unfolding writable script_alone in_order get_pages each_below first_of fixed meet_last take_at demand_at demand_of let_go drop_first
writable_word = refl

-- ---- A page of the LDT is taken where the guest touches it: the second page of the kernel's addresses is the table of level 1, which is none of descriptors; the third one is frame 6, and the LDT ends
-- behind it.
touches : List Op
touches = new_base 1 ∷ ext 13 0x1000 1024 ∷ ops.TouchLdt 0 ∷ ops.TouchLdt 1 ∷ ops.TouchLdt 1 ∷ ops.TouchLdt 2 ∷ []

touched_answers :
    answers touches (opening (cell 4 2 0x6001 tables)) ≡
    ok 0 ∷ ok 0 ∷ no (Frames (OtherType 4 kinds.Desc (live_kind kinds.L1 1))) ∷ ok 0 ∷ ok 0 ∷ no (Numbers BadRange) ∷ []
unfolding touches script_alone in_order each_below first_of fixed path ldt_read ldt_write meet_last take_at demand_at demand_of let_go drop_first
touched_answers = refl

touched_share : (left touches (opening (cell 4 2 0x6001 tables))).frames.shares 6 ≡ owned 3
unfolding touches script_alone in_order each_below first_of fixed path ldt_read ldt_write meet_last take_at demand_at demand_of let_go drop_first
touched_share = refl

touched_named : (left touches (opening (cell 4 2 0x6001 tables))).own 23 ≡ 7
unfolding touches script_alone in_order each_below first_of fixed path ldt_read ldt_write meet_last take_at demand_at demand_of let_go drop_first
touched_named = refl
