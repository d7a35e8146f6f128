pub mod PutNames
