-- What stays true of the lines so far with one more line.
use Rattle.std.proofs.Common.{◌≡◌, ℕ, ◌+◌, ◌<◌, ◌≤◌, ◌||◌, ◌&&◌, nat_le, nat_lt, List, [], ◌∷◌, ◌++◌, length, slice_index, slice_index_or, slice_set, Bool, true, false, ◌∙◌, arith, sum_by, length-set}
use Rattle.std.specs.List.{list_all, All}
use Rattle.std.proofs.lemmas.List.Elements.{All-push, All-set}
use Rattle.std.proofs.lemmas.Grind.{common_steps}
use Rattle.trace_lines.specs.Spelling.{IsSpellableOp}
use Rattle.xp_words.specs.declared.ops.Op.{Op}
use Rattle.trace_text.specs.declared.trace.Own.{Own}
use Rattle.trace_text.specs.Counted.{is_apart, pages_of, ops_of, numbers_in, destroys_in, extents_in}
use Rattle.trace_text.specs.Fronts.{Front, may_own, capped}
use Rattle.trace_text.specs.Parts.{Tallies, HasOpening, IsRun}
use Rattle.trace_text.specs.WellFormed.{IsOp}
use Rattle.trace_text.proofs.Runs.{apart_with, taken_with}

pub record Owns (f : Front) (o : Own) : Type 0 where
  pub known : o.domain < length f.domains
  pub some : 1 ≤ o.count
  pub inside : o.first + o.count ≤ f.frames
  pub free : list_all (is_apart o) f.owned ≡ true
  pub room : pages_of o.domain f.owned + o.count ≤ slice_index f.domains o.domain

owns : (f : Front) (o : Own) → may_own f o ≡ true → Owns f o
unfolding may_own
owns f o may = grind (arith, common_steps)

page_room : (owned : List Own) (domains : List ℕ) (o : Own) (d : ℕ) → pages_of d owned ≤ slice_index domains d → pages_of o.domain owned + o.count ≤ slice_index domains o.domain → pages_of d (owned ++ o ∷ []) ≤ slice_index domains d
page_room owned domains o d before room = grind (arith, common_steps)

page_counts : (pages : List ℕ) (owned : List Own) (o : Own) (d : ℕ) → o.domain < length pages → slice_index pages d ≡ pages_of d owned → slice_index (slice_set pages o.domain (slice_index pages o.domain + o.count)) d ≡ pages_of d (owned ++ o ∷ [])
page_counts pages owned o d within before = grind (arith, common_steps)

pub own_opening : (f : Front) (o : Own) → HasOpening f → f.place < 9 → may_own f o ≡ true → HasOpening (record f { place = 8; owned = f.owned ++ o ∷ [] })
own_opening f o is place may =
    let has = owns f o may in
    record {
      unowned = search arith;
      owned = All-push (IsRun (length f.domains) f.frames) f.owned o is.owned (record { domain = has.known; some = has.some; inside = has.inside });
      apart = apart_with f.owned o is.apart has.free;
      pages = λ d known. page_room f.owned f.domains o d (is.pages d known) has.room;
      unfilled = λ early. is.unfilled place;
      cells = is.cells;
      unscripted = λ early. absurd (omega arith);
      scripts = is.scripts;
      ops = is.ops;
      turns = is.turns;
    }

-- the frames are marked as taken and the pages counted
pub own_tallies : (f : Front) (o : Own) (taken taken' : List Bool) (pages : List ℕ) (ops destroys extents turned : ℕ) → Tallies f taken pages ops destroys extents turned → length taken' ≡ length taken → ((k : ℕ) → k < length taken → slice_index_or taken' k false ≡ (slice_index_or taken k false || (nat_le o.first k && nat_lt k (o.first + o.count)))) → o.domain < length pages → Tallies (record f { place = 8; owned = f.owned ++ o ∷ [] }) taken' (slice_set pages o.domain (slice_index pages o.domain + o.count)) ops destroys extents turned
own_tallies f o taken taken' pages ops destroys extents turned is each are within = record {
  each_frame = each ∙ is.each_frame;
  taken_are = λ k inside. taken_with f.owned o k (slice_index_or taken k false) (slice_index_or taken' k false) (is.taken_are k inside) (are k (omega (arith, is.each_frame)));
  pages_are = λ d few. page_counts pages f.owned o d within (is.pages_are d few);
  ops_are = is.ops_are;
  destroys_are = is.destroys_are;
  extents_are = is.extents_are;
  turned_are = is.turned_are;
  few_ops = is.few_ops;
  few_destroys = is.few_destroys;
  few_extents = is.few_extents;
  few_turned = is.few_turned;
}

-- the operations of that vCPU with one more
abbrev pub longer : List (List Op) → ℕ → Op → List (List Op)
longer scripts vcpu op = slice_set scripts vcpu (slice_index_or scripts vcpu [] ++ op ∷ [])

counted : (g : Op → ℕ) (scripts : List (List Op)) (vcpu : ℕ) (op : Op) → vcpu < length scripts → sum_by (λ script. sum_by g script) (longer scripts vcpu op) ≡ sum_by (λ script. sum_by g script) scripts + g op
counted g scripts vcpu op within = grind (arith, common_steps)

ops_counted : (scripts : List (List Op)) (vcpu : ℕ) (op : Op) → vcpu < length scripts → ops_of (longer scripts vcpu op) ≡ ops_of scripts + 1
ops_counted scripts vcpu op within = grind (arith, common_steps)

all_ops : (version : ℕ) (scripts : List (List Op)) (vcpu : ℕ) (op : Op) → vcpu < length scripts → All (λ script. All (IsOp version) script) scripts → IsOp version op → All (λ script. All (IsOp version) script) (longer scripts vcpu op)
all_ops version scripts vcpu op within all is =
    All-set (λ script. All (IsOp version) script) scripts vcpu (slice_index_or scripts vcpu [] ++ op ∷ [])
    (All-push (IsOp version) (slice_index_or scripts vcpu []) op (all vcpu [] within) is) all

pub op_is : (version : ℕ) (op : Op) → IsSpellableOp version op → capped (numbers_in op) ≤ 8192 → IsOp version op
op_is version op is few = record { spelled = is; numbers = omega arith }

pub op_opening : (f : Front) (vcpu : ℕ) (op : Op) → HasOpening f → vcpu < length f.scripts → IsOp f.version op → HasOpening (record f { place = 10; scripts = longer f.scripts vcpu op })
op_opening f vcpu op is within one = record {
  unowned = λ early. absurd (omega arith);
  owned = is.owned;
  apart = is.apart;
  pages = is.pages;
  unfilled = λ early. absurd (omega arith);
  cells = is.cells;
  unscripted = λ early. absurd (omega arith);
  scripts = length-set f.scripts vcpu (slice_index_or f.scripts vcpu [] ++ op ∷ []) ∙ is.scripts;
  ops = all_ops f.version f.scripts vcpu op within is.ops one;
  turns = is.turns;
}

-- the new counts are those with this operation, and within their limits
pub op_tallies : (f : Front) (vcpu : ℕ) (op : Op) (taken : List Bool) (pages : List ℕ) (ops destroys extents turned destroys' extents' : ℕ) → Tallies f taken pages ops destroys extents turned → vcpu < length f.scripts → ops < 65536 → destroys' ≡ destroys + destroys_in op → destroys' ≤ 16 → extents' ≡ extents + extents_in op → extents' ≤ 1000000 → Tallies (record f { place = 10; scripts = longer f.scripts vcpu op }) taken pages (ops + 1) destroys' extents' turned
op_tallies f vcpu op taken pages ops destroys extents turned destroys' extents' is within few_ops destroys_are few_destroys extents_are few_extents = record {
  each_frame = is.each_frame;
  taken_are = is.taken_are;
  pages_are = is.pages_are;
  ops_are = omega (arith, is.ops_are, ops_counted f.scripts vcpu op within);
  destroys_are = omega (arith, is.destroys_are, destroys_are, counted destroys_in f.scripts vcpu op within);
  extents_are = omega (arith, is.extents_are, extents_are, counted extents_in f.scripts vcpu op within);
  turned_are = is.turned_are;
  few_ops = omega arith;
  few_destroys = few_destroys;
  few_extents = few_extents;
  few_turned = is.few_turned;
}
