-- Lines, and what comes after them word by word.
use Rattle.std.proofs.Common.{◌≡◌, ◌∙◌, ℕ, List, [], ◌∷◌, ◌++◌, ap, sym, append_assoc}
use Rattle.std.specs.Prelude.{codes}
use Rattle.std.specs.Fmt.{decimal}
use Rattle.gw_addr.specs.declared.bip.BipAddr.{BipAddr}
use Rattle.gw_addr.specs.declared.entry.BdtEntry.{BdtEntry}
use Rattle.gw_addr.specs.Address.{text_of}
use Rattle.gw_addr.specs.Text.{four_text}
use Rattle.gw_tables.specs.declared.bdt_fdt.kept.KeptDevice.{KeptDevice}
use Rattle.gw_tables.specs.declared.routes.route.Route.{Route}
use Rattle.gw_state.specs.declared.counts.SavedCounts.{SavedCounts}
use Rattle.gw_state_text.specs.Text.{counts_line, device_line, entry_line, port_line, route_line}
use Rattle.gw_state_text.specs.internal.Lines.{counts_on, device_on, entry_on, port_on, route_on}

-- a word, and a line of two or of three more words, before what comes after it
pub two_words : (w a b rest : List ℕ) → (w ++ (a ++ 32 ∷ (b ++ 10 ∷ []))) ++ rest ≡ w ++ (a ++ 32 ∷ (b ++ 10 ∷ rest))
two_words w a b rest =
    append_assoc w (a ++ 32 ∷ (b ++ 10 ∷ [])) rest
    ∙ ap (λ (t : List ℕ). w ++ t) (append_assoc a (32 ∷ (b ++ 10 ∷ [])) rest
    ∙ ap (λ (t : List ℕ). a ++ 32 ∷ t) (append_assoc b (10 ∷ []) rest))

pub three_words : (w a b d rest : List ℕ) → (w ++ (a ++ 32 ∷ (b ++ 32 ∷ (d ++ 10 ∷ [])))) ++ rest ≡ w ++ (a ++ 32 ∷ (b ++ 32 ∷ (d ++ 10 ∷ rest)))
three_words w a b d rest =
    append_assoc w (a ++ 32 ∷ (b ++ 32 ∷ (d ++ 10 ∷ []))) rest
    ∙ ap (λ (t : List ℕ). w ++ t) (append_assoc a (32 ∷ (b ++ 32 ∷ (d ++ 10 ∷ []))) rest
    ∙ ap (λ (t : List ℕ). a ++ 32 ∷ t) (append_assoc b (32 ∷ (d ++ 10 ∷ [])) rest
    ∙ ap (λ (t : List ℕ). b ++ 32 ∷ t) (append_assoc d (10 ∷ []) rest)))

pub counts_then : (c : SavedCounts) (rest : List ℕ) → counts_line c ++ rest ≡ counts_on c rest
counts_then c rest = three_words (codes "counts ") (decimal c.since) (decimal c.ticks) (decimal c.denials) rest

pub port_then : (n : ℕ) (a : BipAddr) (rest : List ℕ) → port_line n a ++ rest ≡ port_on n a rest
port_then n a rest = two_words (codes "port ") (decimal n) (text_of a) rest

pub entry_then : (word : List ℕ) (e : BdtEntry) (rest : List ℕ) → entry_line word e ++ rest ≡ entry_on word e rest
entry_then word e rest = two_words word (text_of e.address) (four_text e.mask) rest

pub device_then : (d : KeptDevice) (rest : List ℕ) → device_line d ++ rest ≡ device_on d rest
device_then d rest = three_words (codes "device ") (text_of d.address) (decimal d.time_to_live) (decimal d.left) rest

pub route_then : (r : ℕ × Route) (rest : List ℕ) → route_line r ++ rest ≡ route_on r rest
route_then r rest = three_words (codes "route ") (decimal r.0) (decimal r.1.port) (text_of r.1.next) rest

-- what is found word by word is the line and what comes after it
pub entry_found : (word : List ℕ) (e : BdtEntry) (text rest : List ℕ) → text ≡ entry_on word e rest → text ≡ entry_line word e ++ rest
entry_found word e text rest is = is ∙ sym (entry_then word e rest)

pub device_found : (d : KeptDevice) (text rest : List ℕ) → text ≡ device_on d rest → text ≡ device_line d ++ rest
device_found d text rest is = is ∙ sym (device_then d rest)

pub route_found : (r : ℕ × Route) (text rest : List ℕ) → text ≡ route_on r rest → text ≡ route_line r ++ rest
route_found r text rest is = is ∙ sym (route_then r rest)
