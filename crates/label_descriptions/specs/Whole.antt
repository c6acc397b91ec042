-- What is said of a whole game, and when a text describes it. This project's own.
use Rattle.std.specs.Prelude.{◌≡◌, ℕ, zero, suc, ◌+◌, Bool, true, false, List, [], ◌++◌, length, slice_index, codes, decimal}
use Rattle.octal_code.specs.Text.{code_text}
use Rattle.misere_theory.specs.Games.{IsHeap}
use Rattle.misere_theory.specs.Labels.{RepresentsBy}
use Rattle.dominance.specs.Triples.{IsElement, claim_by}
use Rattle.dominance_text.specs.Said.{DominanceSaid}
use Rattle.dominance_text.specs.Labels.{label_of}
use Rattle.label_descriptions.specs.Lists.{front}
use Rattle.label_descriptions.specs.declared.lines.Style.{Style}
use Rattle.label_descriptions.specs.declared.lines.Style.TheVariants as style
use Rattle.label_descriptions.specs.declared.whole_describing.Output.{Output}
use Rattle.label_descriptions.specs.declared.whole_describing.Output.TheVariants.{Plain, Latex, Json}

-- the quotient is U, or it lies in U
abbrev pub relation_of : Output → Bool → List ℕ
relation_of output true = codes "="
relation_of Plain false = codes "in"
relation_of Latex false = codes "\\subseteq"
relation_of Json false = codes "in"

-- The monoid U of triples by generators and relations, its P-portion, and the triples of the generators.
abbrev pub presentation : Output → List ℕ
presentation Plain =
    codes "< a,b,h_0,h_1,.. | a^2=1, h_i h_j=h_i b^(j+2) for j<=i, h_i b^(i+1)=b^(2i+3) >\nP = { a, b^(2k+2), b^k h_i for k<=i and k+i odd }\na odd, b weight 1, h_i weight i+2 lead i+1\n"
presentation Latex =
    codes "\\langle a,b,h_{0},h_{1},\\ldots\\mid a^{2}=1$, $h_{i}h_{j}=h_{i}b^{j+2}$ for $j\\le i$, $h_{i}b^{i+1}=b^{2i+3}\\rangle$\\\\\n$\\mathcal{P}=\\{a$, $b^{2k+2}$, $b^{k}h_{i}$ for $k\\le i$ and $k+i$ odd$\\}$\\\\\n$a$ odd, $b$ weight $1$, $h_{i}$ weight $i+2$ lead $i+1$\\\\\n"
presentation Json =
    codes "\"relations\":[[\"a^2\",\"1\"],[\"h_i h_j\",\"h_i b^(j+2) for j<=i\"],[\"h_i b^(i+1)\",\"b^(2i+3)\"]],\"portion\":[\"a\",\"b^(2k+2)\",\"b^k h_i for k<=i and k+i odd\"],\"generators\":{\"a\":\"odd\",\"b\":\"weight 1\",\"h_i\":\"weight i+2 lead i+1\"}"

-- the game, how its quotient stands to U, and U
abbrev pub head_pieces : Output → List ℕ → List ℕ → List ℕ → List ℕ
head_pieces Plain code relation monoid = codes "Q(" ++ code ++ codes ") " ++ relation ++ codes " " ++ monoid
head_pieces Latex code relation monoid =
    codes "\\begin{flushleft}\n$\\mathcal{Q}(\\mathbf{" ++ code ++ codes "})" ++ relation ++ monoid
head_pieces Json code relation monoid =
    codes "{\"code\":\"" ++ code ++ codes "\",\"kind\":\"whole\",\"quotient\":\"" ++ relation
    ++ codes "\"," ++ monoid

abbrev pub head_text : Output → List ℕ → Bool → List ℕ
head_text output code all = head_pieces output (code_text code) (relation_of output all) (presentation output)

-- the triple of a heap, and those of the first i heaps
abbrev pub rank_line : Style → ℕ → ℕ → ℕ → ℕ → List ℕ
rank_line style.Plain heap odd weight lead =
    codes "heap " ++ decimal heap ++ codes " odd " ++ decimal odd ++ codes " weight " ++ decimal weight
    ++ codes " lead " ++ decimal lead ++ codes "\n"
rank_line style.Latex heap odd weight lead =
    codes "$\\Phi(" ++ decimal heap ++ codes ")=(" ++ decimal odd ++ codes "," ++ decimal weight
    ++ codes "," ++ decimal lead ++ codes ")$\\\\\n"

abbrev pub rank_lines : Style → DominanceSaid → ℕ → List ℕ
rank_lines s c zero = []
rank_lines s c (suc i) =
    rank_lines s c i
    ++ rank_line s (i + 1) (slice_index c.odd i) (slice_index c.weights i) (slice_index c.leads i)

-- the first k numbers, with a comma between each two
abbrev pub numbers_text : List ℕ → ℕ → List ℕ
numbers_text numbers zero = []
numbers_text numbers (suc k) =
    numbers_text numbers k ++ front [] (codes ",") k ++ decimal (slice_index numbers k)

-- the numbers of the heaps up to the end of the first period
abbrev pub ranks_pieces : List ℕ → List ℕ → List ℕ → List ℕ
ranks_pieces odd weights leads =
    codes ",\"odd\":[" ++ odd ++ codes "],\"weights\":[" ++ weights ++ codes "],\"leads\":[" ++ leads
    ++ codes "]"

abbrev pub ranks_json : DominanceSaid → List ℕ
ranks_json c =
    ranks_pieces (numbers_text c.odd (length c.odd)) (numbers_text c.weights (length c.weights))
    (numbers_text c.leads (length c.leads))

abbrev pub ranks_text : Output → DominanceSaid → List ℕ
ranks_text Plain c = rank_lines style.Plain c (length c.odd)
ranks_text Latex c = rank_lines style.Latex c (length c.odd)
ranks_text Json c = ranks_json c

-- how the triples repeat
abbrev pub repeat_pieces : Output → ℕ → ℕ → ℕ → List ℕ
repeat_pieces Plain start period rise =
    codes "repeat " ++ decimal period ++ codes " from " ++ decimal start ++ codes " rise "
    ++ decimal rise ++ codes "\n"
repeat_pieces Latex start period rise =
    codes "$\\Phi(n+" ++ decimal period ++ codes ")=\\Phi(n)+(0," ++ decimal rise ++ codes ","
    ++ decimal rise ++ codes ")$ for $n\\ge" ++ decimal start
    ++ codes "$, but a lead of $0$ stays\n\\end{flushleft}\n"
repeat_pieces Json start period rise =
    codes ",\"start\":" ++ decimal start ++ codes ",\"period\":" ++ decimal period ++ codes ",\"rise\":"
    ++ decimal rise ++ codes "}\n"

-- the text that is asked for
abbrev pub whole_text_for : Output → DominanceSaid → Bool → List ℕ
whole_text_for output c all =
    head_text output c.code all ++ ranks_text output c ++ repeat_pieces output c.start c.period c.rise

-- The text has all that is said of the whole game; and if it says that U is the quotient, U is.
abbrev pub IsWholeText : Output → DominanceSaid → List ℕ → Type 0
IsWholeText output c text =
    (all : Bool) × (all ≡ true → RepresentsBy IsElement IsHeap c.code (claim_by (label_of c)))
    × (text ≡ whole_text_for output c all)
