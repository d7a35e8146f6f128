-- Marks are few; and the types of frames, one after another.
use Rattle.std.proofs.Common.{◌≡◌, ℕ, ◌+◌, ◌≤◌, List, [], ◌∷◌, ◌++◌, Option, Some, ◌∙◌, below_more, arith}
use Rattle.std.proofs.lemmas.List.{get_or_append_left, get_or_push, length_push}
use Rattle.xp_words.specs.declared.kind.KindWord.{KindWord}
use Rattle.xp_words.specs.declared.kind.PageType.{PageType}
use Rattle.xp_words.specs.declared.kind.PageType.TheVariants as types
use Rattle.xp_words.specs.declared.refs.RefWord.{RefWord}
use Rattle.xp_words.specs.declared.refs.RefWord.TheVariants.{Owned}
use Rattle.xp_words.specs.RefWords.{ref_read}
use Rattle.xp_words.specs.declared.place.Place.{Place}
use Rattle.xp_board.specs.Readings.{kind_at, allocated_mark, allocated_in}
use Rattle.xp_board.specs.Recorded.{marks}
use Rattle.xp_board.proofs.Sums.{bit_most}
use Rattle.reference_recount.specs.Growth.{AreKinds}

-- ---- marks are few
one_mark : (r : Option RefWord) → allocated_in r ≤ 1
one_mark (Some (Owned owner allocated count)) = bit_most allocated
one_mark _ = omega arith

pub allocated_few : (w : ℕ) → allocated_mark w ≤ 1
unfolding allocated_mark
allocated_few w = one_mark (ref_read w)

pub marks_few : (k : KindWord) → marks k ≤ 2
unfolding marks
marks_few k = let a = bit_most k.pinned in let b = bit_most k.kept in omega arith

-- ---- the types of frames, one after another
pub one_kind_more : (m : Place → ℕ) (f : ℕ) (kinds : List PageType) (kind : PageType) → AreKinds m f kinds → kind ≡ (kind_at m f).kind → AreKinds m (f + 1) (kinds ++ kind ∷ [])
one_kind_more m f kinds kind a e =
    record {
      len = let l = length_push kinds kind in let n = a.len in omega arith;
      each = below_more _ f
          (λ g l. get_or_append_left kinds (kind ∷ []) types.None g (let n = a.len in omega arith) ∙ a.each g l)
          (get_or_push kinds kind types.None f a.len ∙ e);
    }
