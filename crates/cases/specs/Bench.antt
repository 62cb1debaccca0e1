-- The bench, and how one is made.
use Rattle.std.specs.Prelude.{ℕ, ◌≤◌, List, replicate}
use Rattle.ft12.specs.declared.record.Link.{Link}
use Rattle.ft12.specs.Record.{link_with}
use Rattle.baos.specs.declared.datapoint.Datapoint.{Datapoint}
use Rattle.baos.specs.declared.item.Item.{Item}
use Rattle.calls.specs.Reply.{Reply, Accepted}
use Rattle.script.specs.Line.{Line}

-- the tables at a fixed width with a count beside each, the link record and the output of one server; the two text lists,
-- and the value beside a bus value event, as the lines that told them; and what the last call answered
pub record Bench : Type 0 where
  pub link : Link
  pub datapoints : List Datapoint
  pub datapointcount : ℕ
  pub items : List Item
  pub itemcount : ℕ
  pub parameters : List ℕ
  pub parametercount : ℕ
  pub site : Line
  pub defaults : Line
  pub value : Line
  pub out : List ℕ
  pub reply : Reply

-- nothing received, nothing outstanding, and these bits
unfoldable pub idle_link : ℕ → ℕ → Link
idle_link expected send = link_with (replicate 260 0) 0 0 expected send (replicate 261 0) 0 0

-- what stands in the places of a table that are not in use
unfoldable pub no_datapoint : Datapoint
no_datapoint = record { id = 0; typecode = 0; flags = 0; dpt = 0; state = 0; value = replicate 14 0; mark = 0 }

unfoldable pub no_item : Item
no_item = record { id = 0; size = 0; writable = 0; bytes = replicate 16 0 }

unfoldable pub no_line : Line
no_line = record { letter = 0; bytes = replicate 264 0; size = 0 }

-- "unless said, nothing is outstanding and both bits are odd"
unfoldable pub empty_bench : Bench
empty_bench =
    record {
      link = idle_link 1 1;
      datapoints = replicate 50 no_datapoint;
      datapointcount = 0;
      items = replicate 4 no_item;
      itemcount = 0;
      parameters = replicate 264 0;
      parametercount = 0;
      site = no_line;
      defaults = no_line;
      value = no_line;
      out = replicate 262 0;
      reply = Accepted 0;
    }

-- the bench b with other count bits, other tables, other lists or another value
unfoldable pub with_bits : ℕ → ℕ → Bench → Bench
with_bits expected send b =
    record {
      link =
          link_with b.link.receiver b.link.received b.link.dropping expected send b.link.outstanding
          b.link.held b.link.resends;
      datapoints = b.datapoints;
      datapointcount = b.datapointcount;
      items = b.items;
      itemcount = b.itemcount;
      parameters = b.parameters;
      parametercount = b.parametercount;
      site = b.site;
      defaults = b.defaults;
      value = b.value;
      out = b.out;
      reply = b.reply;
    }

unfoldable pub with_datapoints : List Datapoint → ℕ → Bench → Bench
with_datapoints ds n b =
    record {
      link = b.link;
      datapoints = ds;
      datapointcount = n;
      items = b.items;
      itemcount = b.itemcount;
      parameters = b.parameters;
      parametercount = b.parametercount;
      site = b.site;
      defaults = b.defaults;
      value = b.value;
      out = b.out;
      reply = b.reply;
    }

unfoldable pub with_items : List Item → ℕ → Bench → Bench
with_items is n b =
    record {
      link = b.link;
      datapoints = b.datapoints;
      datapointcount = b.datapointcount;
      items = is;
      itemcount = n;
      parameters = b.parameters;
      parametercount = b.parametercount;
      site = b.site;
      defaults = b.defaults;
      value = b.value;
      out = b.out;
      reply = b.reply;
    }

unfoldable pub with_parameters : List ℕ → ℕ → Bench → Bench
with_parameters ps n b =
    record {
      link = b.link;
      datapoints = b.datapoints;
      datapointcount = b.datapointcount;
      items = b.items;
      itemcount = b.itemcount;
      parameters = ps;
      parametercount = n;
      site = b.site;
      defaults = b.defaults;
      value = b.value;
      out = b.out;
      reply = b.reply;
    }

unfoldable pub with_site : Line → Bench → Bench
with_site l b =
    record {
      link = b.link;
      datapoints = b.datapoints;
      datapointcount = b.datapointcount;
      items = b.items;
      itemcount = b.itemcount;
      parameters = b.parameters;
      parametercount = b.parametercount;
      site = l;
      defaults = b.defaults;
      value = b.value;
      out = b.out;
      reply = b.reply;
    }

unfoldable pub with_defaults : Line → Bench → Bench
with_defaults l b =
    record {
      link = b.link;
      datapoints = b.datapoints;
      datapointcount = b.datapointcount;
      items = b.items;
      itemcount = b.itemcount;
      parameters = b.parameters;
      parametercount = b.parametercount;
      site = b.site;
      defaults = l;
      value = b.value;
      out = b.out;
      reply = b.reply;
    }

unfoldable pub with_value : Line → Bench → Bench
with_value l b =
    record {
      link = b.link;
      datapoints = b.datapoints;
      datapointcount = b.datapointcount;
      items = b.items;
      itemcount = b.itemcount;
      parameters = b.parameters;
      parametercount = b.parametercount;
      site = b.site;
      defaults = b.defaults;
      value = l;
      out = b.out;
      reply = b.reply;
    }

-- nothing goes beyond its width
pub record Within (b : Bench) : Type 0 where
  pub datapoints : b.datapointcount ≤ 50
  pub items : b.itemcount ≤ 4
  pub parameters : b.parametercount ≤ 264
  pub site : b.site.size ≤ 264
  pub defaults : b.defaults.size ≤ 264
  pub value : b.value.size ≤ 264
