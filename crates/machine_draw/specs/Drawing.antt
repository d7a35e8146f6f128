-- A machine with its words, drawn as a text for Graphviz.
use Rattle.std.specs.Prelude.{ℕ, if◌then◌else◌, Bool, List, [], ◌++◌, length, codes, decimal}
use Rattle.std.specs.List.{flat_map, range_with_len}
use Rattle.xp_words.specs.Machine.{Machine}
use Rattle.xp_words.specs.declared.place.Place.TheVariants.{Life, Pages}
use Rattle.walk_audit.specs.declared.verdict.Verdict.{Verdict}
use Rattle.walk_audit.specs.Lines.{verdict_text}
use Rattle.report_text.specs.Memories.{word}
use Rattle.report_text.specs.WordTexts.{life_text}
use Rattle.machine_draw.specs.Frames.{domains_of, frame_parts}
use Rattle.machine_draw.specs.Named.{named_frames}
use Rattle.machine_draw.specs.Pictures.{Picture, blames_domain}
use Rattle.machine_draw.specs.Tables.{all_edges}
use Rattle.machine_draw.specs.Vcpus.{vcpu_parts, vcpu_edges}

-- the domain's life and the number of its pages
unfoldable pub cluster_label : Picture → ℕ → List ℕ
cluster_label p d =
    codes "label=\"domain " ++ (decimal d ++ (codes " " ++ (life_text (word p.memory (Life d)) ++ (codes " pages " ++ (decimal (word p.memory (Pages d)) ++ codes "\";\n")))))

unfoldable pub cluster_open : ℕ → List ℕ
cluster_open d = codes "subgraph cluster_domain" ++ (decimal d ++ codes " {\n")

abbrev pub cluster_color : Bool → List ℕ
cluster_color red = if red then codes "color=red;\n" else []

unfoldable pub cluster_head : Picture → ℕ → List ℕ
cluster_head p d = cluster_open d ++ (cluster_label p d ++ cluster_color (blames_domain p.verdict d))

-- a domain with its frames and its vCPUs
unfoldable pub cluster_text : Picture → ℕ → List ℕ
cluster_text p d =
    cluster_head p d ++ (frame_parts p d p.memory.machine.frames ++ (vcpu_parts p d (length p.memory.machine.vcpu_domain) ++ codes "}\n"))

unfoldable pub cluster_texts : Picture → ℕ → List ℕ
cluster_texts p n = flat_map (cluster_text p) (range_with_len 0 n)

unfoldable pub head_text : Verdict → List ℕ
head_text v = codes "digraph machine {\nnode [shape=box];\nlabel=\"" ++ (verdict_text v ++ codes "\";\n")

-- the verdict; the domains; frames of none; what tables and vCPUs name
unfoldable pub drawing : Picture → List ℕ
drawing p =
    head_text p.verdict
    ++ (cluster_texts p (domains_of p)
    ++ (frame_parts p (domains_of p) p.memory.machine.frames
    ++ (all_edges p.memory p.memory.machine.frames ++ (vcpu_edges p.memory (length p.memory.machine.vcpu_domain) ++ codes "}\n"))))

-- the drawing of a machine with these words, of which an audit said that
abbrev pub drawing_of : Machine → List ℕ → Verdict → List ℕ
drawing_of m words verdict =
    drawing (record { memory = record { machine = m; words = words }; named = named_frames (record { machine = m; words = words }); verdict = verdict })
