-- The lines of metrics.
use Rattle.std.proofs.Common.{◌≡◌, ◌∙◌, ◌++◌, ◌==◌, ◌&&◌, ◌<◌, ◌^◌, ℕ, Bool, true, false, not, List, [], ◌∷◌, Option, Some, None, ap, arith, codes, cond, decimal, is_some, map, refl, subst, sym}
use Rattle.std.specs.List.{filter, flat_map, list_all}
use Rattle.std.proofs.lemmas.Bool.{false≢true}
use Rattle.std.proofs.lemmas.Fmt.{decimal_is_IsNumeral_wide}
use Rattle.std.proofs.lemmas.Grind.{flat_map-append}
use Rattle.std.proofs.lemmas.Str.Parse.{not_in_digits}
use Rattle.gw_addr.specs.Text.{Lacks}
use Rattle.gw_addr.proofs.Decimal.{own}
use Rattle.gw_addr.proofs.Lacking.{lacks_append, lacks_cons}
use Rattle.gw_notices.specs.metrics.Escape.{escaped, escaped_octet}
use Rattle.gw_notices.specs.metrics.Family.{families, family_help, family_kind, family_name, kind_name, label_name}
use Rattle.gw_notices.specs.metrics.Laws.{FamiliesAreOnce, IsUnder, LinesHaveNoFeed, SamplesAreUnderTheirFamily, TextIsLines, helps, is_counted}
use Rattle.gw_notices.specs.metrics.Text.{Count, Help, KindOf, Labelled, Line, Sample, family_lines, family_text, full_line, label_text, lines_text, samples_of}
use Rattle.gw_notices.specs.declared.metrics.counts.GatewayCounts.{GatewayCounts}
use Rattle.gw_notices.specs.declared.metrics.family.Family.{Family}
use Rattle.gw_notices.specs.declared.metrics.family.Family.TheVariants as family
use Rattle.gw_notices.specs.declared.metrics.family.FamilyKind.{FamilyKind}
use Rattle.gw_notices.specs.declared.metrics.family.FamilyKind.TheVariants.{Counter, Gauge}
use Rattle.gw_notices.specs.declared.metrics.family.SampleLabel.{SampleLabel}
use Rattle.gw_notices.specs.declared.metrics.family.SampleLabel.TheVariants as label

-- ---- families

abbrev all_lines : GatewayCounts → List Family → List Line
all_lines c list = flat_map (λ f. family_lines f (samples_of c f)) list

lines_of : (c : GatewayCounts) (list : List Family) → flat_map (family_text c) list ≡ lines_text (all_lines c list)
lines_of c [] = refl
lines_of c (f ∷ list) =
    ap (λ (t : List ℕ). family_text c f ++ t) (lines_of c list)
    ∙ sym (flat_map-append full_line (family_lines f (samples_of c f)) (all_lines c list))

pub text_is_lines : TextIsLines
text_is_lines c = lines_of c families

under_samples : (f : Family) (samples : List Sample) (lines : List Line) → IsUnder f lines → IsUnder f (map (Count f) samples ++ lines)
under_samples f [] lines is = is
under_samples f (s ∷ samples) lines is = (refl, under_samples f samples lines is)

under_family : (f g : Family) (samples : Option (List Sample)) (lines : List Line) → ((h : Family) → IsUnder h lines)
    → IsUnder f (family_lines g samples ++ lines)
under_family f g None lines is = is f
under_family f g (Some samples) lines is = (refl, under_samples g samples lines (is g))

under_all : (c : GatewayCounts) (list : List Family) (f : Family) → IsUnder f (all_lines c list)
under_all c [] f = tt
under_all c (g ∷ list) f = under_family f g (samples_of c g) (all_lines c list) (under_all c list)

pub samples_are_under_their_family : SamplesAreUnderTheirFamily
samples_are_under_their_family c f = under_all c families f

helps_samples : (f : Family) (samples : List Sample) (lines : List Line) → helps (map (Count f) samples ++ lines) ≡ helps lines
helps_samples f [] lines = refl
helps_samples f (s ∷ samples) lines = helps_samples f samples lines

helps_family : (f : Family) (samples : Option (List Sample)) (lines : List Line)
    → helps (family_lines f samples ++ lines) ≡ cond (is_some samples) (f ∷ helps lines) (helps lines)
helps_family f None lines = refl
helps_family f (Some samples) lines = ap (λ (l : List Family). f ∷ l) (helps_samples f samples lines)

helps_all : (c : GatewayCounts) (list : List Family) → helps (all_lines c list) ≡ filter (is_counted c) list
helps_all c [] = refl
helps_all c (f ∷ list) =
    helps_family f (samples_of c f) (all_lines c list)
    ∙ ap (λ (l : List Family). cond (is_counted c f) (f ∷ l) l) (helps_all c list)

pub families_are_once : FamiliesAreOnce
families_are_once c = helps_all c families

-- ---- line feeds

abbrev has_no_feed : List ℕ → Bool
has_no_feed text = list_all (λ octet. not (octet == 10)) text

both : (a b : Bool) → (a && b) ≡ true → (a ≡ true) × (b ≡ true)
both true b e = (refl, e)
both false b e = absurd cc

lacks_nothing : Lacks 10 []
lacks_nothing i less e = absurd (omega (arith, less))

lacks_by : (text : List ℕ) → has_no_feed text ≡ true → Lacks 10 text
lacks_by [] h = lacks_nothing
lacks_by (x ∷ xs) h =
    let parts = both (not (x == 10)) (has_no_feed xs) h in
    lacks_cons 10 x xs (λ e. false≢true (subst (λ (n : ℕ). not (n == 10) ≡ true) e parts.0)) (lacks_by xs parts.1)

name_lacks : (f : Family) → has_no_feed (family_name f) ≡ true
name_lacks family.Build = refl
name_lacks family.Ticks = refl
name_lacks family.Received = refl
name_lacks family.Taken = refl
name_lacks family.Drops = refl
name_lacks family.Sends = refl
name_lacks family.SendFailures = refl
name_lacks family.Announcements = refl
name_lacks family.AnnouncementFailures = refl
name_lacks family.ReceiveFailures = refl
name_lacks family.Denials = refl
name_lacks family.Decisions = refl
name_lacks family.Unwatched = refl
name_lacks family.PortDatagrams = refl
name_lacks family.PortDrops = refl
name_lacks family.PortSends = refl
name_lacks family.PortSendFailures = refl
name_lacks family.ForeignDevices = refl
name_lacks family.Peers = refl
name_lacks family.LearnedRoutes = refl
name_lacks family.Reloads = refl
name_lacks family.Configuration = refl
name_lacks family.ConfigurationAge = refl
name_lacks family.StateIsKept = refl
name_lacks family.UnkeptStates = refl
name_lacks family.LostLines = refl
name_lacks family.LostMetrics = refl

help_lacks : (f : Family) → has_no_feed (family_help f) ≡ true
help_lacks family.Build = refl
help_lacks family.Ticks = refl
help_lacks family.Received = refl
help_lacks family.Taken = refl
help_lacks family.Drops = refl
help_lacks family.Sends = refl
help_lacks family.SendFailures = refl
help_lacks family.Announcements = refl
help_lacks family.AnnouncementFailures = refl
help_lacks family.ReceiveFailures = refl
help_lacks family.Denials = refl
help_lacks family.Decisions = refl
help_lacks family.Unwatched = refl
help_lacks family.PortDatagrams = refl
help_lacks family.PortDrops = refl
help_lacks family.PortSends = refl
help_lacks family.PortSendFailures = refl
help_lacks family.ForeignDevices = refl
help_lacks family.Peers = refl
help_lacks family.LearnedRoutes = refl
help_lacks family.Reloads = refl
help_lacks family.Configuration = refl
help_lacks family.ConfigurationAge = refl
help_lacks family.StateIsKept = refl
help_lacks family.UnkeptStates = refl
help_lacks family.LostLines = refl
help_lacks family.LostMetrics = refl

kind_lacks : (k : FamilyKind) → has_no_feed (kind_name k) ≡ true
kind_lacks Counter = refl
kind_lacks Gauge = refl

label_lacks : (l : SampleLabel) → has_no_feed (label_name l) ≡ true
label_lacks label.Version = refl
label_lacks label.Reason = refl
label_lacks label.Rule = refl
label_lacks label.Port = refl
label_lacks label.Outcome = refl
label_lacks label.Log = refl
label_lacks label.Sha256 = refl

chosen : (b : Bool) (first other : List ℕ) → Lacks 10 first → (b ≡ false → Lacks 10 other) → Lacks 10 (cond b first other)
chosen true first other is rest = is
chosen false first other is rest = rest refl

octet_lacks : (x : ℕ) → Lacks 10 (escaped_octet x)
octet_lacks x =
    chosen (x == 92) _ _ (lacks_by (92 ∷ 92 ∷ []) refl) (λ slash.
    chosen (x == 34) _ _ (lacks_by (92 ∷ 34 ∷ []) refl) (λ quote.
    chosen (x == 10) _ _ (lacks_by (92 ∷ 110 ∷ []) refl) (λ feed.
    lacks_cons 10 x [] (λ e. false≢true (sym (subst (λ (n : ℕ). (n == 10) ≡ false) e feed))) (lacks_by [] refl))))

value_lacks : (value : List ℕ) → Lacks 10 (escaped value)
value_lacks [] = lacks_by [] refl
value_lacks (x ∷ value) = lacks_append 10 (escaped_octet x) (escaped value) (octet_lacks x) (value_lacks value)

number_lacks : (n : ℕ) → n < 2 ^ 128 → Lacks 10 (decimal n)
number_lacks n small =
    not_in_digits own (decimal n) 10 (own.from (decimal n) (decimal_is_IsNumeral_wide n (omega (arith, small))).0.1)
    (λ digit. absurd (omega (arith, digit)))

then_lacks : (xs ys : List ℕ) → Lacks 10 xs → has_no_feed ys ≡ true → Lacks 10 (xs ++ ys)
then_lacks xs ys lacks free = lacks_append 10 xs ys lacks (lacks_by ys free)

labelled_lacks : (l : Option Labelled) → Lacks 10 (label_text l)
labelled_lacks None = lacks_nothing
labelled_lacks (Some l) =
    let name = codes "{" ++ label_name l.label in
    let open_value = name ++ codes "=\"" in
    let named : Lacks 10 name = then_lacks (codes "{") (label_name l.label) (lacks_by (codes "{") refl) (label_lacks l.label) in
    let opened : Lacks 10 open_value = then_lacks name (codes "=\"") named refl in
    let valued : Lacks 10 (open_value ++ escaped l.value) = lacks_append 10 open_value (escaped l.value) opened (value_lacks l.value) in
    then_lacks (open_value ++ escaped l.value) (codes "\"}") valued refl

comment_lacks : (front : List ℕ) (f : Family) (text : List ℕ) → has_no_feed front ≡ true → has_no_feed text ≡ true
    → Lacks 10 (((front ++ family_name f) ++ codes " ") ++ text)
comment_lacks front f text free whole =
    let named : Lacks 10 (front ++ family_name f) = then_lacks front (family_name f) (lacks_by front free) (name_lacks f) in
    let spaced : Lacks 10 ((front ++ family_name f) ++ codes " ") = then_lacks (front ++ family_name f) (codes " ") named refl in
    then_lacks ((front ++ family_name f) ++ codes " ") text spaced whole

pub lines_have_no_feed : LinesHaveNoFeed
lines_have_no_feed (Help f) short = comment_lacks (codes "# HELP ") f (family_help f) refl (help_lacks f)
lines_have_no_feed (KindOf f) short = comment_lacks (codes "# TYPE ") f (kind_name (family_kind f)) refl (kind_lacks (family_kind f))
lines_have_no_feed (Count f sample) short =
    let name = family_name f ++ label_text sample.label in
    let named : Lacks 10 name =
    lacks_append 10 (family_name f) (label_text sample.label) (lacks_by (family_name f) (name_lacks f)) (labelled_lacks sample.label) in
    let spaced : Lacks 10 (name ++ codes " ") = then_lacks name (codes " ") named refl in
    lacks_append 10 (name ++ codes " ") (decimal sample.number) spaced (number_lacks sample.number short)
