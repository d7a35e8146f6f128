-- The section of the operations.
use Rattle.std.proofs.Common.{◌≡◌, ℕ, ◌+◌, ◌<◌, ◌≤◌, List, [], ◌∷◌, ◌++◌, length, slice_index_or, slice_set, refl, sym, ap, ◌∙◌, subst, arith, append_assoc, append-nil, sum_by, replicate, mul-zero, length-append}
use Rattle.std.specs.List.{flat_map, enumerate_from, All}
use Rattle.std.proofs.Math.Seq.{get_or-append_seam, set-append_seam}
use Rattle.std.proofs.lemmas.List.Elements.{All-head, All-tail}
use Rattle.std.proofs.lemmas.List.Sums.{sum_by-append, sum_by-cons}
use Rattle.std.proofs.lemmas.List.Folds.{sum_by-replicate}
use Rattle.std.proofs.lemmas.Grind.{common_steps}
use Rattle.xp_words.specs.declared.ops.Op.{Op}
use Rattle.trace_lines.specs.declared.line.Line.TheVariants as lines
use Rattle.trace_text.specs.Counted.{ops_of, destroys_of, destroys_in, extents_of, extents_in}
use Rattle.trace_text.specs.Fronts.{Front, front_after, front_after_op, with_op}
use Rattle.trace_text.specs.Lines.{script_lines}
use Rattle.trace_text.specs.WellFormed.{IsOp}
use Rattle.trace_text.proofs.Leads.{Step, Leads, Reaches, reaches_both}

pub record Few (scripts : List (List Op)) : Type 0 where
  pub ops : ops_of scripts ≤ 65536
  pub destroys : destroys_of scripts ≤ 16
  pub extents : extents_of scripts ≤ 1000000

record Room (scripts : List (List Op)) (op : Op) : Type 0 where
  ops : ops_of scripts < 65536
  destroys : destroys_of scripts + destroys_in op ≤ 16
  extents : extents_of scripts + extents_in op ≤ 1000000

op_step : (f : Front) (vcpu : ℕ) (op : Op) → 7 ≤ f.place → f.place ≤ 10 → length f.vcpus ≤ 16 → vcpu < length f.vcpus → Room f.scripts op → IsOp f.version op → Step f (lines.Op vcpu op) (with_op f vcpu op)
unfolding front_after front_after_op
op_step f vcpu op low high few known room is = record {
  spelled = (omega arith, is.spelled);
  open_still = grind (arith, common_steps);
  taken = grind (arith, common_steps);
}

-- a script among others, with one more operation
seam : (done tail : List (List Op)) (cur : List Op) (op : Op) → slice_set (done ++ cur ∷ tail) (length done) (slice_index_or (done ++ cur ∷ tail) (length done) [] ++ op ∷ []) ≡ done ++ (cur ++ op ∷ []) ∷ tail
seam done tail cur op = rw (get_or-append_seam done cur tail [], set-append_seam done cur tail (cur ++ op ∷ [])) refl

sum_at : {X : Type 0} (g : X → ℕ) (before after : List X) (x : X) → sum_by g (before ++ x ∷ after) ≡ sum_by g before + (g x + sum_by g after)
sum_at g before after x = sum_by-append g before (x ∷ after) ∙ ap (λ n. sum_by g before + n) (sum_by-cons g x after)

more_by : (g : Op → ℕ) (done tail : List (List Op)) (cur ops : List Op) (op : Op) → sum_by (λ script. sum_by g script) (done ++ cur ∷ tail) + g op ≤ sum_by (λ script. sum_by g script) (done ++ (cur ++ op ∷ ops) ∷ tail)
more_by g done tail cur ops op =
    omega (arith, sum_at (λ script. sum_by g script) done tail cur, sum_at (λ script. sum_by g script) done tail (cur ++ op ∷ ops), sum_at g cur ops op)

more_ops : (done tail : List (List Op)) (cur ops : List Op) (op : Op) → ops_of (done ++ cur ∷ tail) < ops_of (done ++ (cur ++ op ∷ ops) ∷ tail)
more_ops done tail cur ops op =
    omega (arith, sum_at length done tail cur, sum_at length done tail (cur ++ op ∷ ops), length-append cur (op ∷ ops))

room_before : (done tail : List (List Op)) (cur ops : List Op) (op : Op) → Few (done ++ (cur ++ op ∷ ops) ∷ tail) → Room (done ++ cur ∷ tail) op
room_before done tail cur ops op few = record {
  ops = omega (arith, few.ops, more_ops done tail cur ops op);
  destroys = omega (arith, few.destroys, more_by destroys_in done tail cur ops op);
  extents = omega (arith, few.extents, more_by extents_in done tail cur ops op);
}

script_lead : (f : Front) (done tail : List (List Op)) (cur ops : List Op) → f.scripts ≡ done ++ cur ∷ tail → 7 ≤ f.place → f.place ≤ 10 → length f.vcpus ≤ 16 → length done < length f.vcpus → All (IsOp f.version) ops → Few (done ++ (cur ++ ops) ∷ tail) → Reaches 7 10 f (script_lines (length done) ops) (record f { scripts = done ++ (cur ++ ops) ∷ tail })
script_lead f done tail cur [] here low high few known are within =
    (f.place, low, high, rw append-nil (ap (λ (ss : List (List Op)). record f { scripts = ss }) here))
script_lead f done tail cur (op ∷ ops) here low high few known are within =
    let h : Front = record f { place = 10; scripts = done ++ (cur ++ op ∷ []) ∷ tail } in
    let one = op_step f (length done) op low high few known (rw here (room_before done tail cur ops op within)) (All-head (IsOp f.version) op ops are) in
    let made : with_op f (length done) op ≡ h = rw here (ap (λ (ss : List (List Op)). record f { place = 10; scripts = ss }) (seam done tail cur op)) in
    let same : (cur ++ op ∷ []) ++ ops ≡ cur ++ op ∷ ops = append_assoc cur (op ∷ []) ops in
    let rest = script_lead h done tail (cur ++ op ∷ []) ops refl (omega arith) (omega arith) few known (All-tail (IsOp f.version) op ops are) (rw same within) in
    (rest.0, rest.1, rest.2, (h, subst (λ k. Step f (lines.Op (length done) op) k) made one, subst (λ us. Leads h (script_lines (length done) ops) (record f { place = rest.0; scripts = done ++ us ∷ tail })) same rest.3))

-- scripts that are still empty count nothing
none : (g : List Op → ℕ) (n : ℕ) → g [] ≡ 0 → sum_by g (replicate n []) ≡ 0
none g n empty = sum_by-replicate g n [] ∙ rw (empty, mul-zero) refl

less_by : (g : List Op → ℕ) (done rest : List (List Op)) (script : List Op) → g [] ≡ 0 → sum_by g (done ++ script ∷ replicate (length rest) []) ≤ sum_by g (done ++ script ∷ rest)
less_by g done rest script empty =
    omega (arith, sum_at g done (replicate (length rest) []) script, sum_at g done rest script, none g (length rest) empty)

few_before : (done rest : List (List Op)) (script : List Op) → Few (done ++ script ∷ rest) → Few (done ++ script ∷ replicate (length rest) [])
few_before done rest script few = record {
  ops = omega (arith, few.ops, less_by length done rest script refl);
  destroys = omega (arith, few.destroys, less_by (λ s. sum_by destroys_in s) done rest script refl);
  extents = omega (arith, few.extents, less_by (λ s. sum_by extents_in s) done rest script refl);
}

pub scripts_lead : (f : Front) (done rest : List (List Op)) → f.scripts ≡ done ++ replicate (length rest) [] → 7 ≤ f.place → f.place ≤ 10 → length f.vcpus ≤ 16 → length done + length rest ≤ length f.vcpus → All (λ script. All (IsOp f.version) script) rest → Few (done ++ rest) → Reaches 7 10 f (flat_map (λ p. script_lines p.0 p.1) (enumerate_from (length done) rest)) (record f { scripts = done ++ rest })
scripts_lead f done [] here low high few known are within = (f.place, low, high, ap (λ (ss : List (List Op)). record f { scripts = ss }) here)
scripts_lead f done (script ∷ rest) here low high few known are within =
    let long : length (done ++ script ∷ []) ≡ length done + 1 = grind (arith, common_steps) in
    let same : (done ++ script ∷ []) ++ rest ≡ done ++ script ∷ rest = append_assoc done (script ∷ []) rest in
    let h : Front = record f { scripts = done ++ script ∷ replicate (length rest) [] } in
    reaches_both 7 10 7 10 f h (record f { scripts = done ++ script ∷ rest }) (script_lines (length done) script) (flat_map (λ p. script_lines p.0 p.1) (enumerate_from (length done + 1) rest))
    (script_lead f done (replicate (length rest) []) [] script here low high few (omega arith) (All-head (λ s. All (IsOp f.version) s) script rest are) (few_before done rest script within))
    (λ p from until. rw (← long, ← same) (scripts_lead (record h { place = p }) (done ++ script ∷ []) rest (sym (append_assoc done (script ∷ []) (replicate (length rest) []))) from until few (omega (arith, long)) (All-tail (λ s. All (IsOp f.version) s) script rest are) (rw same within)))
