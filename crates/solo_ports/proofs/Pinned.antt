-- Kind words of pinned frames: each is a live table; and what a sober kind word keeps.
use Rattle.std.proofs.Common.{◌≡◌, ◌<◌, ◌≤◌, if◌then◌else◌, Bool, true, false, IsTrue, refl, arith}
use Rattle.std.proofs.lemmas.Bool.Decides.{nat_tests}
use Rattle.xp_words.specs.KindWords.{has_form, is_kind}
use Rattle.xp_words.specs.PageTypes.{is_table, type_number}
use Rattle.xp_words.specs.declared.kind.KindWord.{KindWord}
use Rattle.xp_words.specs.declared.kind.PageType.{PageType}
use Rattle.xp_words.specs.declared.kind.PageType.TheVariants as types
use Rattle.partial_state.specs.Levels.{level_type}
use Rattle.table_words.proofs.PinWords.{pinned_lives}
use Rattle.table_law.specs.Plain.{sober}

pub sober_pinned : (k : KindWord) → (sober k).pinned ≡ k.pinned
sober_pinned k = one k.validated
  where
    one : (b : Bool) → (if b then k else record k { number = 0 }).pinned ≡ k.pinned
    one true = refl
    one false = refl

pub sober_kept : (k : KindWord) → (sober k).kept ≡ k.kept
sober_kept k = one k.validated
  where
    one : (b : Bool) → (if b then k else record k { number = 0 }).kept ≡ k.kept
    one true = refl
    one false = refl

-- a pinned frame is a live table
pub record IsPinnedTable (k : KindWord) : Type 0 where
  pub live : k.validated ≡ true
  pub table : is_table k.kind ≡ true
  pub some : 0 < k.number

pub pinned_table : (k : KindWord) → IsTrue (is_kind k) → k.pinned ≡ true → IsPinnedTable k
unfolding has_form
pinned_table k is on =
    record {
      live = pinned_lives k is on;
      table = (let live : k.validated ≡ true = pinned_lives k is on in grind (arith, nat_tests));
      some = (let live : k.validated ≡ true = pinned_lives k is on in grind (arith, nat_tests));
    }

pub table_level : (t : PageType) → is_table t ≡ true → (level_type (type_number t) ≡ t) × (1 ≤ type_number t) × (type_number t ≤ 4)
table_level types.L1 is = (refl, omega arith, omega arith)
table_level types.L2 is = (refl, omega arith, omega arith)
table_level types.L3 is = (refl, omega arith, omega arith)
table_level types.L4 is = (refl, omega arith, omega arith)
table_level types.None is = absurd cc
table_level types.Desc is = absurd cc
table_level types.Writable is = absurd cc
