-- The second word of a frame: which values have a word, and how it is spelled and read.
use Rattle.std.specs.Prelude.{ℕ, ◌+◌, ◌*◌, ◌/◌, ◌%◌, ◌^◌, ◌==◌, ◌&&◌, ◌||◌, not, nat_lt, if◌then◌else◌, Bool, true, Option, Some, None}
use Rattle.xp_words.specs.declared.kind.KindWord.{KindWord}
use Rattle.xp_words.specs.RefWords.{bit}
use Rattle.xp_words.specs.PageTypes.{type_number, type_of, is_none, is_table}

-- The four forms. Each says which marks may be set, and what number and progress are.
abbrev pub is_live_form : KindWord → Bool
is_live_form k =
    not k.partial && not k.kept && not k.unflushed && (k.progress == 0) && not (is_none k.kind) && nat_lt k.number (2 ^ 26)
    && (not (k.pinned || k.locked) || (is_table k.kind && nat_lt 0 k.number))

-- a stamp where it is not flushed yet, else 0
abbrev pub is_marked_number : KindWord → Bool
is_marked_number k = k.unflushed || (k.number == 0)

abbrev pub is_partial_form : KindWord → Bool
is_partial_form k =
    not k.locked && not k.pinned && not (is_none k.kind) && nat_lt k.progress 513 && is_marked_number k
    && (if k.unflushed || not (is_table k.kind) then (k.progress == 0) && k.unflushed else true)
    && (not (type_number k.kind == 5) || k.kept)

abbrev pub is_work_form : KindWord → Bool
is_work_form k = not k.kept && not k.pinned && (k.progress == 0) && not (is_none k.kind) && is_marked_number k

abbrev pub is_dead_form : KindWord → Bool
is_dead_form k = not k.kept && not k.pinned && (k.progress == 0) && not (k.unflushed && is_none k.kind)

unfoldable pub has_form : KindWord → Bool
has_form k = if k.validated then is_live_form k else if k.partial then is_partial_form k else if k.locked then is_work_form k else is_dead_form k

abbrev pub is_kind : KindWord → Bool
is_kind k = nat_lt k.number (2 ^ 36) && (nat_lt k.progress (2 ^ 10) && has_form k)

-- the word with these fields
unfoldable pub kind_write : KindWord → ℕ
kind_write k =
    k.number + 2 ^ 36 * k.progress + 2 ^ 46 * bit k.unflushed + 2 ^ 47 * bit k.kept + 2 ^ 48 * bit k.locked + 2 ^ 49 * bit k.partial
    + 2 ^ 50 * bit k.validated + 2 ^ 51 * bit k.pinned + 2 ^ 52 * type_number k.kind

-- the fields of a word
unfoldable pub kind_fields : ℕ → KindWord
kind_fields w =
    record {
      kind = type_of (w / 2 ^ 52);
      pinned = w / 2 ^ 51 % 2 == 1;
      validated = w / 2 ^ 50 % 2 == 1;
      partial = w / 2 ^ 49 % 2 == 1;
      locked = w / 2 ^ 48 % 2 == 1;
      kept = w / 2 ^ 47 % 2 == 1;
      unflushed = w / 2 ^ 46 % 2 == 1;
      progress = w / 2 ^ 36 % 2 ^ 10;
      number = w % 2 ^ 36;
    }

-- a word with a type's number at its top
abbrev pub has_type : ℕ → Bool
has_type w = nat_lt (w / 2 ^ 52) 8 && not (w / 2 ^ 52 == 6)

-- the value that a word is read as
unfoldable pub kind_read : ℕ → Option KindWord
kind_read w = if has_type w && has_form (kind_fields w) then Some (kind_fields w) else None
