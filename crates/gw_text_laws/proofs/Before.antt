-- Texts without the two keys are read as where there are no such keys.
use Rattle.std.proofs.Common.{◌≡◌, ◌++◌, ◌∷◌, ◌∙◌, ◌+◌, ℕ, [], Bool, true, false, List, Option, Some, None, Ok, Err, ap, codes, if◌then◌else◌, length, nat_lt, refl}
use Rattle.std.specs.Option.{ok_or}
use Rattle.std.specs.List.{list_any}
use Rattle.toml.specs.Data.{Data, Members, as_table, get_member}
use Rattle.gw_addr.specs.Reading.{◌>>=◌}
use Rattle.gw_addr.specs.declared.TheConstants.{MAX_PORTS}
use Rattle.gw_rules.specs.declared.format.Format.{Format}
use Rattle.gw_rules.specs.declared.format.Format.TheVariants as formats
use Rattle.gw_configuration.specs.declared.fault.ConfigFault.TheVariants as faults
use Rattle.gw_configuration.specs.declared.located.Place.TheVariants as places
use Rattle.gw_configuration.specs.declared.port.Port.{Port}
use Rattle.gw_configuration.specs.declared.shape.Scalar.TheVariants.{Boolean, Manager}
use Rattle.gw_configuration.specs.declared.shape.Shape.TheVariants.{One}
use Rattle.gw_configuration.specs.Configuration.{Configuration}
use Rattle.gw_configuration.specs.Duplicates.{unique}
use Rattle.gw_configuration.specs.Located.{Find, Located, Read, of_text, unless, whole}
use Rattle.gw_policy_text.specs.keys.Field.{located_beside}
use Rattle.gw_policy_text.specs.keys.Tables.{format_in}
use Rattle.gw_policy_text.specs.keys.Tables as now
use Rattle.gw_policy_text.specs.Document as whole_text
use Rattle.gw_policy_text.specs.Parts as parts
use Rattle.gw_policy_text.specs.Parts.{each_at, list_or, within}
use Rattle.gw_text_laws.specs.WithoutNeighbours as before
use Rattle.gw_text_laws.proofs.Fields.{located_more, missed, none_from, or_parts}

-- ---- the ports

same_port_table : (format : Format) (k : ℕ) (table : Members) → get_member (codes "bbmd") table ≡ None
    → located_beside [] (places.Port k) (now.port_fields format) table ≡ located_beside [] (places.Port k) (before.port_fields format) table
same_port_table formats.One k table none = refl
same_port_table formats.Two k table none = refl
same_port_table formats.Three k table none =
    located_more [] (places.Port k) (before.port_fields formats.Three) [] now.manager_field table (missed [] (codes "bbmd") (One Manager) table none)

same_port_parts : (format : Format) (k : ℕ) (table : Members) → get_member (codes "bbmd") table ≡ None → parts.port_parts format k table ≡ before.port_parts format k table
same_port_parts formats.One k table none = refl
same_port_parts formats.Two k table none = refl
same_port_parts formats.Three k table none = rw none refl

same_port_of : (format : Format) (k : ℕ) (table : Members) → get_member (codes "bbmd") table ≡ None → parts.port_of format k table ≡ before.port_of format k table
same_port_of format k table none =
    ap (λ (l : Option Located). unless l (parts.port_parts format k table)) (same_port_table format k table none)
    ∙ ap (λ (r : Find Port). unless (located_beside [] (places.Port k) (before.port_fields format) table) r) (same_port_parts format k table none)

same_port : (format : Format) (k : ℕ) (v : Data) → before.names_manager v ≡ false → parts.port_in format k v ≡ before.port_in format k v
same_port format k v e = on (as_table v) e
  where
    on : (table : Option Members) → before.has_manager table ≡ false
        → (whole (ok_or table faults.Kind) >>= parts.port_of format k) ≡ (whole (ok_or table faults.Kind) >>= before.port_of format k)
    on None e = refl
    on (Some table) e = same_port_of format k table (none_from (get_member (codes "bbmd") table) e)

same_each : (format : Format) (vs : List Data) → list_any before.names_manager vs ≡ false → (k : ℕ)
    → each_at (parts.port_in format) k vs ≡ each_at (before.port_in format) k vs
same_each format [] e k = refl
same_each format (v ∷ vs) e k =
    let parted = or_parts (before.names_manager v) (list_any before.names_manager vs) e in
    rw (same_port format k v parted.0, same_each format vs parted.1 (k + 1)) refl

same_ports : (format : Format) (top : Members) → before.some_names_manager (list_or (get_member (codes "port") top)) ≡ false
    → parts.ports_at format (codes "port") top ≡ before.ports_at format top
same_ports format top e = on (list_or (get_member (codes "port") top)) e
  where
    on : (r : Read (List Data)) → before.some_names_manager r ≡ false
        → (whole (r >>= within 1 MAX_PORTS) >>= each_at (parts.port_in format) 0) ≡ (whole (r >>= within 1 MAX_PORTS) >>= each_at (before.port_in format) 0)
    on (Err fault) e = refl
    on (Ok vs) e = by (nat_lt (length vs) 1) (nat_lt MAX_PORTS (length vs))
      where
        by : (few many : Bool)
            → (whole (if few then Err faults.Range else if many then Err faults.TooMany else Ok vs) >>= each_at (parts.port_in format) 0)
            ≡ (whole (if few then Err faults.Range else if many then Err faults.TooMany else Ok vs) >>= each_at (before.port_in format) 0)
        by true many = refl
        by false true = refl
        by false false = same_each format vs e 0

-- ---- the whole

same_top : (format : Format) (top : Members) → get_member (codes "announce") top ≡ None
    → located_beside [] places.Top (now.top_fields format) top ≡ located_beside [] places.Top (before.top_fields format) top
same_top formats.One top none = refl
same_top formats.Two top none = refl
same_top formats.Three top none =
    located_more [] places.Top (now.common_top_fields ++ now.may (codes "set") (now.tables 0 1048576) ∷ []) (now.may (codes "assert") (now.tables 0 512) ∷ []) (now.may (codes "announce") (One Boolean)) top (missed [] (codes "announce") (One Boolean) top none)

silent : (format : Format) (top : Members) → get_member (codes "announce") top ≡ None → parts.announce_at format (codes "announce") top ≡ Ok false
silent formats.One top none = refl
silent formats.Two top none = refl
silent formats.Three top none = rw none refl

same_parts_of : (top : Members) → before.has_keys top ≡ false → whole_text.parts_of top ≡ before.parts_of top
same_parts_of top e = on (parts.format_at (codes "format") top)
  where
    parted : (before.has_key (codes "announce") top ≡ false) × (before.some_names_manager (list_or (get_member (codes "port") top)) ≡ false)
    parted = or_parts (before.has_key (codes "announce") top) (before.some_names_manager (list_or (get_member (codes "port") top))) e

    on : (r : Read Format) → (whole r >>= λ format. whole_text.parts_of_format format top) ≡ (whole r >>= λ format. before.parts_of_format format top)
    on (Err fault) = refl
    on (Ok format) =
        rw (silent format top (none_from (get_member (codes "announce") top) parted.0), same_ports format top parted.1) refl

same_in : (top : Members) → before.has_keys top ≡ false → whole_text.configuration_of top ≡ before.configuration_of top
unfolding whole_text.configuration_of before.configuration_of
same_in top e =
    let parted = or_parts (before.has_key (codes "announce") top) (before.some_names_manager (list_or (get_member (codes "port") top))) e in
    ap (λ (l : Option Located). unless l (whole_text.parts_of top >>= unique)) (same_top (format_in top) top (none_from (get_member (codes "announce") top) parted.0))
    ∙ ap (λ (r : Find Configuration). unless (located_beside [] places.Top (before.top_fields (format_in top)) top) (r >>= unique)) (same_parts_of top e)

by_document : (long : Bool) (read : Read Members) → before.has_keys_in read ≡ false
    → (if long then Err (of_text faults.TooMany) else (whole read >>= whole_text.configuration_of))
    ≡ (if long then Err (of_text faults.TooMany) else (whole read >>= before.configuration_of))
by_document true read e = refl
by_document false (Ok top) e = same_in top e
by_document false (Err fault) e = refl

pub kept : before.TextsAreAsBefore
kept text e = by_document (nat_lt 1048576 (length text)) (whole_text.document text) e
