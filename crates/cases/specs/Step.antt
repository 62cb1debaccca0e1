-- One call on the bench.
use Rattle.std.specs.Prelude.{◌≡◌, ℕ, List, ◌++◌, take, drop}
use Rattle.baos.specs.Text.{TextLists, text_lists}
use Rattle.baos.specs.Table.{Tables, tables_of}
use Rattle.calls.specs.declared.event.Event.{Event}
use Rattle.calls.specs.Call.{Called, call}
use Rattle.cases.specs.Bench.{Bench}
use Rattle.script.specs.Line.{listed}
use Rattle.cases.specs.Bench.{Within}

-- the tables as far as their counts go, and these text lists
unfoldable pub tables_in : Bench → TextLists → Tables
tables_in b ts =
    tables_of (take b.datapointcount b.datapoints) (take b.itemcount b.items)
    (take b.parametercount b.parameters) ts

-- the text lists
unfoldable pub lists_of : Bench → TextLists
lists_of b = text_lists (listed b.site) (listed b.defaults)

-- what the server's call answers and leaves
unfoldable pub called : Bench → TextLists → Event → Called
called b ts e = call e (listed b.value) (tables_in b ts) b.link b.out

-- the counts and the value of a bench within its widths, told beside it
pub record Told (b : Bench) (d i p : ℕ) (v : List ℕ) : Type 0 where
  pub within : Within b
  pub datapoints : d ≡ b.datapointcount
  pub items : i ≡ b.itemcount
  pub parameters : p ≡ b.parametercount
  pub value : v ≡ listed b.value

-- the bench after it: what was not lent stays
unfoldable pub stepped : Bench → TextLists → Event → Bench
stepped b ts e =
    record {
      link = (called b ts e).link;
      datapoints = (called b ts e).tables.datapoints ++ drop b.datapointcount b.datapoints;
      datapointcount = b.datapointcount;
      items = (called b ts e).tables.items ++ drop b.itemcount b.items;
      itemcount = b.itemcount;
      parameters = (called b ts e).tables.parameters ++ drop b.parametercount b.parameters;
      parametercount = b.parametercount;
      site = b.site;
      defaults = b.defaults;
      value = b.value;
      out = (called b ts e).output;
      reply = (called b ts e).reply;
    }
