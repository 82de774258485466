-- A port and its tables, read one after the other.
use Rattle.std.proofs.Common.{◌≡◌, ◌∙◌, ℕ, List, [], ◌∷◌, ◌++◌, length, refl, sym, ap, append-nil}
use Rattle.std.specs.List.{flat_map}
use Rattle.std.proofs.lemmas.List.Concat.{flat_map-cons}
use Rattle.gw_addr.specs.declared.bip.BipAddr.{BipAddr}
use Rattle.gw_addr.specs.declared.entry.BdtEntry.{BdtEntry}
use Rattle.gw_tables.specs.declared.bdt_fdt.kept.KeptDevice.{KeptDevice}
use Rattle.gw_state.specs.declared.port.SavedPort.{SavedPort}
use Rattle.gw_state_text.specs.Text.{device_line, entry_line, entry_word, peer_word, port_line, port_text}
use Rattle.gw_state_text.specs.internal.Block.{StopsAfter}
use Rattle.gw_state_text.specs.internal.Lines.{port_on}
use Rattle.gw_state_text.proofs.LineLemmas.{port_then}
use Rattle.gw_state_text.proofs.StateLemmas.{after}

abbrev pub port : ℕ → BipAddr → List BdtEntry → List BdtEntry → List KeptDevice → SavedPort
port network address peers entries devices =
    record { network = network; address = address; peers = peers; entries = entries; devices = devices }

-- or after a part of one, which is an item too
pub one_after : {A : Type 0} (line : A → List ℕ) (item : A) (text rest : List ℕ) (left : ℕ) → text ≡ line item ++ rest → left ≡ length rest
    → StopsAfter line text left
one_after line item text rest left e is = record {
  items = item ∷ [];
  rest = rest;
  parts = e ∙ ap (λ (t : List ℕ). t ++ rest) (sym (flat_map-cons line item [] ∙ append-nil (line item)));
  is = is;
}

-- a port, its peers, its entries and its devices
pub port_whole : (text a b c rest : List ℕ) (n : ℕ) (address : BipAddr) (peers entries : List BdtEntry) (devices : List KeptDevice)
    → text ≡ port_on n address a → a ≡ flat_map (entry_line peer_word) peers ++ b → b ≡ flat_map (entry_line entry_word) entries ++ c
    → c ≡ flat_map device_line devices ++ rest → text ≡ port_text (port n address peers entries devices) ++ rest
port_whole text a b c rest n address peers entries devices e f g h =
    let line = port_line n address in
    let ps = flat_map (entry_line peer_word) peers in
    let es = flat_map (entry_line entry_word) entries in
    let ds = flat_map device_line devices in
    e ∙ sym (port_then n address a) ∙ after line a (ps ++ (es ++ ds)) rest (f ∙ after ps b (es ++ ds) rest (g ∙ after es c ds rest h))

pub in_peers : (text a : List ℕ) (n : ℕ) (address : BipAddr) (left : ℕ) → text ≡ port_on n address a
    → StopsAfter (entry_line peer_word) a left → StopsAfter port_text text left
in_peers text a n address left e stops =
    one_after port_text (port n address stops.items [] []) text stops.rest left
    (port_whole text a stops.rest stops.rest stops.rest n address stops.items [] [] e stops.parts refl refl) stops.is

pub in_entries : (text a b : List ℕ) (n : ℕ) (address : BipAddr) (peers : List BdtEntry) (left : ℕ) → text ≡ port_on n address a
    → a ≡ flat_map (entry_line peer_word) peers ++ b → StopsAfter (entry_line entry_word) b left → StopsAfter port_text text left
in_entries text a b n address peers left e f stops =
    one_after port_text (port n address peers stops.items []) text stops.rest left
    (port_whole text a b stops.rest stops.rest n address peers stops.items [] e f stops.parts refl) stops.is

pub in_devices : (text a b c : List ℕ) (n : ℕ) (address : BipAddr) (peers entries : List BdtEntry) (left : ℕ) → text ≡ port_on n address a
    → a ≡ flat_map (entry_line peer_word) peers ++ b → b ≡ flat_map (entry_line entry_word) entries ++ c
    → StopsAfter device_line c left → StopsAfter port_text text left
in_devices text a b c n address peers entries left e f g stops =
    one_after port_text (port n address peers entries stops.items) text stops.rest left
    (port_whole text a b c stops.rest n address peers entries stops.items e f g stops.parts) stops.is

-- the same of the tables that are made of them
pub port_read : (text a b c rest : List ℕ) (n : ℕ) (address : BipAddr) (read_peers read_entries : List BdtEntry) (read_devices : List KeptDevice)
    (peers entries : List BdtEntry) (devices : List KeptDevice)
    → text ≡ port_on n address a → a ≡ flat_map (entry_line peer_word) read_peers ++ b → b ≡ flat_map (entry_line entry_word) read_entries ++ c
    → c ≡ flat_map device_line read_devices ++ rest → peers ≡ read_peers → entries ≡ read_entries → devices ≡ read_devices
    → text ≡ port_text (port n address peers entries devices) ++ rest
port_read text a b c rest n address read_peers read_entries read_devices peers entries devices e f g h p q r =
    port_whole text a b c rest n address peers entries devices e
    (f ∙ ap (λ (xs : List BdtEntry). flat_map (entry_line peer_word) xs ++ b) (sym p))
    (g ∙ ap (λ (xs : List BdtEntry). flat_map (entry_line entry_word) xs ++ c) (sym q))
    (h ∙ ap (λ (xs : List KeptDevice). flat_map device_line xs ++ rest) (sym r))
