-- The definitions of queries, computed on makefiles whose readings are given from outside
mod WorkedReadings
mod RandomReadings
