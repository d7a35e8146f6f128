-- vCPUs, drawn, and the frames that their words name.
use Rattle.std.specs.Prelude.{ℕ, ◌-◌, ◌==◌, nat_lt, if◌then◌else◌, List, [], ◌++◌, slice_index, Option, Some, None, codes, decimal}
use Rattle.std.specs.List.{flat_map, range_with_len}
use Rattle.xp_words.specs.declared.place.Place.TheVariants.{Vcpu}
use Rattle.report_text.specs.Memories.{Memory, word}
use Rattle.machine_draw.specs.Frames.{red_text}
use Rattle.machine_draw.specs.Pictures.{Picture, blames_vcpu}
use Rattle.machine_draw.specs.Targets.{context_target}

unfoldable pub vcpu_node : Picture → ℕ → List ℕ
vcpu_node p v =
    codes "vcpu" ++ (decimal v ++ (codes " [label=\"vcpu " ++ (decimal v ++ (codes "\",shape=ellipse" ++ (red_text (blames_vcpu p.verdict v) ++ codes "];\n")))))

-- a vCPU of that domain
unfoldable pub vcpu_part : Picture → ℕ → ℕ → List ℕ
vcpu_part p d v = if slice_index p.memory.machine.vcpu_domain v == d then vcpu_node p v else []

unfoldable pub vcpu_parts : Picture → ℕ → ℕ → List ℕ
vcpu_parts p d n = flat_map (vcpu_part p d) (range_with_len 0 n)

-- what word k of a vCPU is
unfoldable pub word_title : ℕ → List ℕ
word_title k =
    if k == 0 then codes "base"
    else if k == 1 then codes "user"
    else if nat_lt k 8 then codes "old"
    else if nat_lt k 22 then codes "GDT " ++ decimal (k - 8)
    else codes "LDT " ++ decimal (k - 22)

abbrev pub word_edge_to : ℕ → ℕ → Option ℕ → List ℕ
word_edge_to v k None = []
word_edge_to v k (Some f) = codes "vcpu" ++ (decimal v ++ (codes " -> frame" ++ (decimal f ++ (codes " [label=\"" ++ (word_title k ++ codes "\"];\n")))))

-- the edge of word k, where it names a frame
unfoldable pub word_edge : Memory → ℕ → ℕ → List ℕ
word_edge m v k = word_edge_to v k (context_target k (word m (Vcpu v k)))

unfoldable pub word_edges : Memory → ℕ → ℕ → List ℕ
word_edges m v n = flat_map (word_edge m v) (range_with_len 0 n)

unfoldable pub vcpu_edges : Memory → ℕ → List ℕ
vcpu_edges m n = flat_map (λ v. word_edges m v 38) (range_with_len 0 n)
