-- The next entry of a table in work, where it opens a table.
use Rattle.std.proofs.Common.{◌≡◌, ℕ, zero, suc, ◌≤◌, Bool, true, Option, Some, None, Ok, refl, sym, subst, arith}
use Rattle.xp_words.specs.Machine.{IsMachine, Machine}
use Rattle.xp_words.specs.declared.entry.Demand.{Demand}
use Rattle.xp_words.specs.declared.entry.Demand.TheVariants as demands
use Rattle.xp_words.specs.declared.kind.KindWord.{KindWord}
use Rattle.xp_words.specs.declared.kind.PageType.{PageType}
use Rattle.xp_words.specs.declared.place.Place.TheVariants.{Refs}
use Rattle.xp_words.specs.declared.reply.Refusal.{Refusal}
use Rattle.xp_board.specs.Readings.{kind_at}
use Rattle.xp_board.specs.Told.{PortValue, told_word}
use Rattle.step_maker.specs.Plain.{Words}
use Rattle.step_maker.specs.Twins.{Alike}
use Rattle.frame_words.specs.Plain.{got, refer}
use Rattle.frame_types.specs.Plain.{IsTakenBy, is_read_first, taken}
use Rattle.frame_types.specs.Standing.{standing_of}
use Rattle.frame_types.specs.declared.standing.Standing.{Standing}
use Rattle.frame_types.specs.declared.standing.Standing.TheVariants as stands
use Rattle.frame_types.specs.declared.taking.Taken.TheVariants as types
use Rattle.partial_state.specs.Levels.{level_type}
use Rattle.table_entries.specs.Plain.{EntersPlainly, IsTakenOf, RefersPlainly, TypedPlainly}
use Rattle.table_entries.specs.declared.entries.Entered.TheVariants.{Opened}
use Rattle.table_law.specs.Plain.{Describes, Plain}

-- ---- where it opens a table
taken_first : (t : PageType) (k : KindWord) (s : Standing) (progress : ℕ) (own : Bool) → IsTakenBy t k s (types.InWork progress own) → is_read_first t ≡ true
taken_first t k stands.Counted progress own is = absurd (let e = is in cc)
taken_first t k stands.Dead progress own is = is.0
taken_first t k stands.Partial progress own is = is.0
taken_first t k stands.Busy progress own is = is.0
taken_first t k stands.Other progress own is = is.0

first_table : (l : ℕ) → is_read_first (level_type l) ≡ true → 1 ≤ l
first_table zero first = absurd (let e = first in cc)
first_table (suc l) first = omega arith

pub opened_table : (l progress : ℕ) (own : Bool) (m : Words) (g : ℕ) → IsTakenOf m g (level_type l) (types.InWork progress own) → 1 ≤ l
opened_table l progress own m g is = first_table l (taken_first (level_type l) (kind_at m g) (standing_of (kind_at m g) (level_type l)) progress own is.1)

module _ (n : Machine) (m : Words) (w : PortValue) (q : Plain) (owner l f i : ℕ) (machine : IsMachine n) (d : Describes n m q) (h progress : ℕ) (own : Bool) where
  pub record Opens (e : Demand) : Type 0 where
    pub frame : ℕ
    pub asked : e ≡ demands.Typed frame (level_type l)
    pub same : h ≡ frame
    pub lends : refer n owner frame (m (Refs frame)) ≡ None
    pub way : IsTakenOf (got frame m) frame (level_type l) (types.InWork progress own)
    pub alike : Alike (told_word w) (taken frame (level_type l) (types.InWork progress own) (got frame m))

  opens_by : (g : ℕ) (o : Option Refusal) → refer n owner g (m (Refs g)) ≡ o → TypedPlainly w m g (level_type l) (Ok (Opened h progress own)) o → Opens (demands.Typed g (level_type l))
  opens_by g (Some x) is a = absurd (let e = a.0 in cc)
  opens_by g None is a = record { frame = g; asked = refl; same = a.0; lends = is; way = a.1; alike = a.2 }

  read_opens : (g : ℕ) (o : Option Refusal) → RefersPlainly w m (Ok (Opened h progress own)) o (got g m) → ⊥
  read_opens g (Some x) a = absurd (let e = a.0 in cc)
  read_opens g None a = absurd (let e = a.0 in cc)

  pub opens : (e : Demand) → ((g : ℕ) (t : PageType) → e ≡ demands.Typed g t → t ≡ level_type l) → EntersPlainly n w m f i owner (Ok (Opened h progress own)) e → Opens e
  opens demands.Nothing asks a = absurd (let e = a.0 in cc)
  opens demands.Bad asks a = absurd (let e = a.0 in cc)
  opens (demands.Read g) asks a = absurd (read_opens g (refer n owner g (m (Refs g))) a)
  opens (demands.Typed g t) asks a =
      subst (λ u. Opens (demands.Typed g u)) (sym (asks g t refl))
      (opens_by g (refer n owner g (m (Refs g))) refl (subst (λ u. TypedPlainly w m g u (Ok (Opened h progress own)) (refer n owner g (m (Refs g)))) (asks g t refl) a))
